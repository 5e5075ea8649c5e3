-- A new instance.
use Rattle.std.proofs.Common.{◌≡◌, ℕ, Bool, true, false, List, [], ◌∷◌, None, Some, length, if◌then◌else◌, bytes_eq, refl}
use Rattle.std.proofs.Common.{sym, ◌∙◌, ap, subst, arith, eq-eqb, ne_eqb}
use Rattle.std.specs.List.{AllByRecursion}
use Rattle.up_conf.specs.declared.job.JobDef.{JobDef}
use Rattle.up_model.specs.Chronicle.{Chronicle, Entry, Made}
use Rattle.up_model.specs.Configuration.{Configuration}
use Rattle.up_model.specs.Instances.{Instance, instances_of}
use Rattle.up_model.specs.Values.{Bytes}
use Rattle.up_model.proofs.Places.{bytes_refl, older-other}
use Rattle.up_model.proofs.NameLaws.{called, made-singles}
use Rattle.up_isolation.specs.Parts.{contents}
use Rattle.up_isolation.proofs.Lives as lives
use Rattle.up_isolation.proofs.Sights.{told}
use Rattle.up_isolation.proofs.Twins.{Twins, Match}
use Rattle.up_isolation.proofs.Known.{IsKnown, AreOlder}
use Rattle.up_isolation.proofs.Likes.{only, Twin, Like, blank_more, fair_more}
use Rattle.up_isolation.proofs.Pairs.{Pair, Shows, part_more, deeds_more}
use Rattle.up_model.specs.Instances.{is_before, with_instance, instance_named}
use Rattle.up_isolation.proofs.Known.{known}
use Rattle.up_isolation.proofs.Likes.{BlankAt}
use Rattle.up_isolation.proofs.Pairs.{bond-missed}

pub twins-with : (R : Instance → Instance → Type 0) (a b : Instance) (xs ys : List Instance) → a.name ≡ b.name
    → R a b → Twins (λ x y. x.name ≡ y.name) xs ys → Twins R xs ys
    → Twins R (with_instance a xs) (with_instance b ys)
twins-with R a b [] [] same one names twins = (one, tt)
twins-with R a b (x ∷ xs) (y ∷ ys) same one names twins =
    by_case (is_before x a) (is_before y b) before (twins-with R a b xs ys same one names.1 twins.1)
  where
    before : is_before x a ≡ is_before y b
    before = rw (names.0, same) refl

    by_case : (p q : Bool) → p ≡ q → Twins R (with_instance a xs) (with_instance b ys)
        → Twins R (if p then x ∷ with_instance a xs else a ∷ x ∷ xs) (if q then y ∷ with_instance b ys
        else b ∷ y ∷ ys)
    by_case true true e ih = (twins.0, ih)
    by_case false false e ih = (one, twins)
    by_case true false e ih = absurd (cc)
    by_case false true e ih = absurd (cc)
twins-with R a b [] (y ∷ ys) same one names twins = absurd twins
twins-with R a b (x ∷ xs) [] same one names twins = absurd twins

pub twins-names : (job : Bytes) (config : Configuration) (c d : Chronicle) (xs ys : List Instance)
    → Twins (Twin job config c d) xs ys → Twins (λ x y. x.name ≡ y.name) xs ys
twins-names job config c d [] [] twins = tt
twins-names job config c d (x ∷ xs) (y ∷ ys) twins = (twins.0.name, twins-names job config c d xs ys twins.1)
twins-names job config c d [] (y ∷ ys) twins = twins
twins-names job config c d (x ∷ xs) [] twins = twins

twins-made : (job : Bytes) (config : Configuration) (file : JobDef) (name : Bytes) (c d : Chronicle) (xs ys : List Instance)
    → AllByRecursion (IsKnown job c) xs → AllByRecursion (IsKnown job d) ys
    → Twins (Twin job config c d) xs ys
    → Twins (Twin job config (Made file name ∷ c) (Made file name ∷ d)) xs ys
twins-made job config file name c d [] [] known knowns twins = tt
twins-made job config file name c d (x ∷ xs) (y ∷ ys) known knowns twins = (
  record {
    name = twins.0.name;
    file = twins.0.file;
    bond = bond-missed job config (Made file name) (Made file name) c d x.file x.place y.place
        (record { aside = older-other (length c) x.place known.0.0; holders = refl; seen = refl })
        (record { aside = older-other (length d) y.place knowns.0.0; holders = refl; seen = refl })
        twins.0.bond;
  },
  twins-made job config file name c d xs ys known.1 knowns.1 twins.1,
)
twins-made job config file name c d [] (y ∷ ys) known knowns twins = twins
twins-made job config file name c d (x ∷ xs) [] known knowns twins = twins

-- the others were made elsewhere
old-match : (job : Bytes) (config : Configuration) (c d : Chronicle) (xs ys : List Instance)
    → AllByRecursion (IsKnown job c) xs → AllByRecursion (IsKnown job d) ys
    → Twins (Twin job config c d) xs ys → Twins (Match (length c) (length d)) xs ys
old-match job config c d [] [] known knowns twins = tt
old-match job config c d (x ∷ xs) (y ∷ ys) known knowns twins = (
  ne_eqb x.place (length c) (λ same. let h = known.0.0 in omega arith)
      ∙ sym (ne_eqb y.place (length d) (λ same. let h = knowns.0.0 in omega arith)),
  old-match job config c d xs ys known.1 knowns.1 twins.1,
)
old-match job config c d [] (y ∷ ys) known knowns twins = twins
old-match job config c d (x ∷ xs) [] known knowns twins = twins

abbrev pub instance-at : ℕ → Bytes → JobDef → Instance
instance-at place name file = record { place = place; name = name; file = file }

pub pair_made : (job : Bytes) (config : Configuration) (file : JobDef) (name : Bytes) (c d : Chronicle) → file.name ≡ job
    → instance_named (called job name) c ≡ None → Like job config c d
    → Pair job config (Made file name ∷ c) (Made file name ∷ d) (instance-at (length c) name file)
    (instance-at (length d) name file)
pair_made job config file name c d its none like = record {
  like = record {
    twins = rw (own)
        (twins-with (Twin job config (e ∷ c) (e ∷ d)) x y (instances_of job c) (instances_of job d) refl twin
        (twins-names job config c d (instances_of job c) (instances_of job d) like.twins)
        (twins-made job config file name c d (instances_of job c) (instances_of job d) (known job c) (known job d)
        like.twins));
    starts = like.starts;
    today = like.today;
    blank = blank_more config e c like.blank tt;
    empty = blank_more (only job config) e d like.empty tt;
    fair = fair_more job e c like.fair tt;
    singles = made-singles file name c (ap (λ k. instance_named (called k name) c) its ∙ none) like.singles;
    part = part_more job config e e c d shows like.part;
    deeds = deeds_more job config e e c d shows like.deeds;
  };
  twin = twin;
  left = (
    omega arith,
    rw (eq-eqb (length c) (length c) refl) (ap (λ k. Some (called k name)) its),
    rw (eq-eqb (length c) (length c) refl) refl,
  );
  right = (
    omega arith,
    rw (eq-eqb (length d) (length d) refl) (ap (λ k. Some (called k name)) its),
    rw (eq-eqb (length d) (length d) refl) refl,
  );
  match = rw (own)
      (twins-with (Match (length c) (length d)) x y (instances_of job c) (instances_of job d) refl
      (eq-eqb (length c) (length c) refl ∙ sym (eq-eqb (length d) (length d) refl))
      (twins-names job config c d (instances_of job c) (instances_of job d) like.twins)
      (old-match job config c d (instances_of job c) (instances_of job d) (known job c) (known job d)
      like.twins));
}
  where
    own : bytes_eq file.name job ≡ true
    own = ap (λ k. bytes_eq k job) its ∙ bytes_refl job

    e : Entry
    e = Made file name

    x : Instance
    x = instance-at (length c) name file

    y : Instance
    y = instance-at (length d) name file

    blank : BlankAt config (length c) c
    blank = like.blank (length c) (omega arith)

    empty : BlankAt (only job config) (length d) d
    empty = like.empty (length d) (omega arith)

    twin : Twin job config (e ∷ c) (e ∷ d) x y
    twin = record {
      name = refl;
      file = refl;
      bond = record {
        alike = lives.made file name c d (λ p h. (like.blank p h).alike) (λ p h. (like.empty p h).alike);
        held =
            ap (λ ps. contents ps (e ∷ c)) blank.holders ∙ sym (ap (λ ps. contents ps (e ∷ d)) empty.holders);
        older = subst (λ ps. AreOlder (length (e ∷ c)) ps) (sym blank.holders) tt;
        older_there = subst (λ ps. AreOlder (length (e ∷ d)) ps) (sym empty.holders) tt;
        sights = ap (told file.stop_on) blank.seen ∙ sym (ap (told file.stop_on) empty.seen);
      };
    }

    shows : Shows job config e e c d
    shows = record { notices = refl; items = refl; deeds = refl }
