-- Two instances that are alike stay so by entries that say the same of both.
use Rattle.std.proofs.Common.{◌≡◌, ℕ, ◌==◌, Bool, true, false, if◌then◌else◌, List, [], ◌∷◌, ◌++◌, Some, length, refl, sym}
use Rattle.std.proofs.Common.{◌∙◌, ap, ap₂, subst, subst₂, arith, eq-eqb, ne_eqb, eqb-true}
use Rattle.std.proofs.lemmas.Bool.{eqb-false}
use Rattle.std.specs.List.{AllByRecursion}
use Rattle.up_conf.specs.declared.job.JobDef.{JobDef}
use Rattle.up_model.specs.declared.failure.Failure.{Failure}
use Rattle.up_model.specs.declared.output.Output.{Output}
use Rattle.up_model.specs.declared.state.State.TheVariants as state
use Rattle.up_model.specs.Chronicle.{Chronicle, Entry, Given, Queued, Handled, Offered, Fired, Finished, Made}
use Rattle.up_model.specs.Chronicle.{Aimed, Restarted, Released, Failed, Respawned, Entered, Ordered}
use Rattle.up_model.specs.Chronicle.{Signalled, Replied, Loaded, Entering, StartOn, StopOn}
use Rattle.up_model.specs.Clock.{now}
use Rattle.up_model.specs.Configuration.{Configuration}
use Rattle.up_model.specs.Instances.{Instance, instances_of}
use Rattle.up_model.specs.Readings.{made_at, file_of, holders}
use Rattle.up_model.specs.Seen.{seen}
use Rattle.up_model.specs.Values.{Bytes}
use Rattle.up_model.proofs.Places.{bytes_refl, older-other}
use Rattle.up_model.proofs.NameLaws.{called, Singles, entered-singles}
use Rattle.up_isolation.specs.Views.{notices, is_of, owns, outputs_if, deeds_by, deeds}
use Rattle.up_isolation.specs.Parts as parts
use Rattle.up_isolation.specs.Parts.{contents, Item, items, items_if}
use Rattle.up_isolation.specs.Parts.{noticed, name_at}
use Rattle.up_isolation.proofs.Lives.{life, IsAside, aside}
use Rattle.up_isolation.proofs.Lives as lives
use Rattle.up_isolation.proofs.Sights.{told}
use Rattle.up_isolation.proofs.Twins.{Twins, Match}
use Rattle.up_isolation.proofs.Known.{IsKnown, known, one-file, AreOlder, contents-later, older-later}
use Rattle.up_isolation.proofs.Likes.{only, Bond, Twin, Like, start_tree, HoldsFair, IsPast, blank_more, fair_more}
use Rattle.up_isolation.proofs.Steady.{part, loads-alike}

-- two instances that are alike, in chronicles in which the job is alike
pub record Pair (job : Bytes) (config : Configuration) (c d : Chronicle) (x y : Instance) : Type 0 where
  pub like : Like job config c d
  pub twin : Twin job config c d x y
  pub left : IsKnown job c x
  pub right : IsKnown job d y
  pub match : Twins (Match x.place y.place) (instances_of job c) (instances_of job d)

-- two other instances that are alike
pub record Guest (job : Bytes) (config : Configuration) (c d : Chronicle) (x y : Instance) : Type 0 where
  pub twin : Twin job config c d x y
  pub left : IsKnown job c x
  pub right : IsKnown job d y
  pub match : Twins (Match x.place y.place) (instances_of job c) (instances_of job d)

-- they stay alike, and so do others
pub record Carries (job : Bytes) (config : Configuration) (c d c2 d2 : Chronicle) (x y : Instance) : Type 0
  where
    pub pair : Pair job config c2 d2 x y
    pub carries : (u v : Instance) → (x.place == u.place) ≡ (y.place == v.place) → Guest job config c d u v
        → Guest job config c2 d2 u v
    pub shrinks : (f g : Instance → Bool) → Twins (λ u v. f u ≡ g v) (instances_of job c) (instances_of job d)
        → Twins (λ u v. f u ≡ g v) (instances_of job c2) (instances_of job d2)

pub carries-none : (job : Bytes) (config : Configuration) (c d : Chronicle) (x y : Instance)
    → Pair job config c d x y → Carries job config c d c d x y
carries-none job config c d x y pair =
    record { pair = pair; carries = λ u v same guest. guest; shrinks = λ f g twins. twins }

pub carries-then : (job : Bytes) (config : Configuration) (c d c2 d2 c3 d3 : Chronicle) (x y : Instance)
    → Carries job config c d c2 d2 x y → Carries job config c2 d2 c3 d3 x y
    → Carries job config c d c3 d3 x y
carries-then job config c d c2 d2 c3 d3 x y one other = record {
  pair = other.pair;
  carries = λ u v same guest. other.carries u v same (one.carries u v same guest);
  shrinks = λ f g twins. other.shrinks f g (one.shrinks f g twins);
}

-- an entry that is about one instance, if it is about any
abbrev pub IsAboutOne : ℕ → Entry → Type 0
IsAboutOne i (Given given) = ⊥
IsAboutOne i (Queued (Entering other to) event) = other ≡ i
IsAboutOne i (Finished event) = ⊥
IsAboutOne i (Offered (StopOn other) event) = other ≡ i
IsAboutOne i (Fired (StopOn other) taken) = other ≡ i
IsAboutOne i (Made file name) = ⊥
IsAboutOne i (Aimed other aim environment its) = other ≡ i
IsAboutOne i (Restarted other its) = other ≡ i
IsAboutOne i (Released other failed) = other ≡ i
IsAboutOne i (Failed other its) = other ≡ i
IsAboutOne i (Respawned other moment) = other ≡ i
IsAboutOne i (Entered other to) = other ≡ i
IsAboutOne i (Ordered other its) = other ≡ i
IsAboutOne i (Signalled other signal by_timer) = other ≡ i
IsAboutOne i e = Unit {0}

-- leaves others alone
pub record LeavesAlone (config : Configuration) (e : Entry) (c : Chronicle) (p : ℕ) : Type 0 where
  pub aside : IsAside p e c
  pub holders : holders p (e ∷ c) ≡ holders p c
  pub seen : seen config (StopOn p) (e ∷ c) ≡ seen config (StopOn p) c

pub leaves : (config : Configuration) (i p : ℕ) (e : Entry) (c : Chronicle) → IsAboutOne i e
    → (i == p) ≡ false → LeavesAlone config e c p
leaves config i p (Given given) c is h = absurd is
leaves config i p (Queued (Entering other to) event) c is h =
    record { aside = rw is h; holders = refl; seen = refl }
leaves config i p (Queued origin event) c is h = record { aside = tt; holders = refl; seen = refl }
leaves config i p (Handled event) c is h = record { aside = tt; holders = refl; seen = refl }
leaves config i p (Finished event) c is h = absurd is
leaves config i p (Offered (StartOn other) event) c is h = record { aside = tt; holders = refl; seen = refl }
leaves config i p (Offered (StopOn other) event) c is h =
    record { aside = tt; holders = refl; seen = rw is (rw h refl) }
leaves config i p (Fired (StartOn other) taken) c is h = record { aside = tt; holders = refl; seen = refl }
leaves config i p (Fired (StopOn other) taken) c is h =
    record { aside = tt; holders = refl; seen = rw is (rw h refl) }
leaves config i p (Made file name) c is h = absurd is
leaves config i p (Aimed other aim environment its) c is h =
    record { aside = rw is h; holders = rw is (rw h refl); seen = refl }
leaves config i p (Restarted other its) c is h =
    record { aside = rw is h; holders = rw is (rw h refl); seen = refl }
leaves config i p (Released other failed) c is h =
    record { aside = tt; holders = rw is (rw h refl); seen = refl }
leaves config i p (Failed other its) c is h = record { aside = rw is h; holders = refl; seen = refl }
leaves config i p (Respawned other moment) c is h = record { aside = rw is h; holders = refl; seen = refl }
leaves config i p (Entered other to) c is h = record { aside = rw is h; holders = refl; seen = refl }
leaves config i p (Ordered other its) c is h = record { aside = rw is h; holders = refl; seen = refl }
leaves config i p (Signalled other signal by_timer) c is h =
    record { aside = rw is h; holders = refl; seen = refl }
leaves config i p (Replied request answer) c is h = record { aside = tt; holders = refl; seen = refl }
leaves config i p (Loaded jobs) c is h = record { aside = tt; holders = refl; seen = refl }

-- an older list later
pub held-later : (ps : List ℕ) (its : List ℕ) (e : Entry) (c : Chronicle) → its ≡ ps → AreOlder (length c) ps
    → contents its (e ∷ c) ≡ contents ps c
held-later ps its e c same older = ap (λ qs. contents qs (e ∷ c)) same ∙ contents-later ps e c older

pub grown : (ps : List ℕ) (its : List ℕ) (e : Entry) (c : Chronicle) → its ≡ ps → AreOlder (length c) ps
    → AreOlder (length (e ∷ c)) its
grown ps its e c same older = subst (λ qs. AreOlder (length (e ∷ c)) qs) (sym same)
    (older-later (length c) (length (e ∷ c)) ps (omega arith) older)

-- a bond of others holds on
pub bond-missed : (job : Bytes) (config : Configuration) (e f : Entry) (c d : Chronicle) (file : JobDef) (i j : ℕ)
    → LeavesAlone config e c i → LeavesAlone (only job config) f d j
    → Bond job config c d file i j → Bond job config (e ∷ c) (f ∷ d) file i j
bond-missed job config e f c d file i j one other bond = record {
  alike = aside i e c one.aside ∙ bond.alike ∙ sym (aside j f d other.aside);
  held = held-later (holders i c) (holders i (e ∷ c)) e c one.holders bond.older ∙ bond.held
      ∙ sym (held-later (holders j d) (holders j (f ∷ d)) f d other.holders bond.older_there);
  older = grown (holders i c) (holders i (e ∷ c)) e c one.holders bond.older;
  older_there = grown (holders j d) (holders j (f ∷ d)) f d other.holders bond.older_there;
  sights = ap (told file.stop_on) one.seen ∙ bond.sights ∙ sym (ap (told file.stop_on) other.seen);
}

-- so does that of the two
pub twin-carried : (job : Bytes) (config : Configuration) (e f : Entry) (c d : Chronicle) (file : JobDef) (i j : ℕ)
    (x y : Instance) → IsAboutOne i e → IsAboutOne j f → file_of i c ≡ Some file
    → Bond job config (e ∷ c) (f ∷ d) file i j → (i == x.place) ≡ (j == y.place) → IsKnown job c x
    → Twin job config c d x y → Twin job config (e ∷ c) (f ∷ d) x y
twin-carried job config e f c d file i j x y is are own bond same known twin =
    by_case (i == x.place) (j == y.place) refl refl same
  where
    by_case : (b a : Bool) → (i == x.place) ≡ b → (j == y.place) ≡ a → (i == x.place) ≡ (j == y.place)
        → Twin job config (e ∷ c) (f ∷ d) x y
    by_case true true here there same = record {
      name = twin.name;
      file = twin.file;
      bond = subst (λ its. Bond job config (e ∷ c) (f ∷ d) its x.place y.place)
          (one-file (file_of x.place c) file x.file (ap (λ p. file_of p c) (sym (eqb-true i x.place here)) ∙ own) known.2)
          (subst₂ (λ p q. Bond job config (e ∷ c) (f ∷ d) file p q) (eqb-true i x.place here)
          (eqb-true j y.place there) bond);
    }
    by_case false false here there same = record {
      name = twin.name;
      file = twin.file;
      bond = bond-missed job config e f c d x.file x.place y.place (leaves config i x.place e c is here)
          (leaves (only job config) j y.place f d are there) twin.bond;
    }
    by_case true false here there same = absurd (cc)
    by_case false true here there same = absurd (cc)

flipped : (p q k l : ℕ) → (p == q) ≡ (k == l) → (q == p) ≡ (l == k)
flipped p q k l same = by_case (p == q) (k == l) refl refl same
  where
    by_case : (b a : Bool) → (p == q) ≡ b → (k == l) ≡ a → (p == q) ≡ (k == l) → (q == p) ≡ (l == k)
    by_case true true here there same =
        eq-eqb q p (sym (eqb-true p q here)) ∙ sym (eq-eqb l k (sym (eqb-true k l there)))
    by_case false false here there same =
        ne_eqb q p (λ e. eqb-false p q here (sym e)) ∙ sym (ne_eqb l k (λ e. eqb-false k l there (sym e)))
    by_case true false here there same = absurd (cc)
    by_case false true here there same = absurd (cc)

-- so all bonds hold on if that of the two does
pub twins-own : (job : Bytes) (config : Configuration) (e f : Entry) (c d : Chronicle) (file : JobDef) (i j : ℕ)
    (xs ys : List Instance) → IsAboutOne i e → IsAboutOne j f → file_of i c ≡ Some file
    → Bond job config (e ∷ c) (f ∷ d) file i j → Twins (Match i j) xs ys → AllByRecursion (IsKnown job c) xs
    → Twins (Twin job config c d) xs ys → Twins (Twin job config (e ∷ c) (f ∷ d)) xs ys
twins-own job config e f c d file i j [] [] is are own bond match known twins = tt
twins-own job config e f c d file i j (x ∷ xs) (y ∷ ys) is are own bond match known twins = (
  twin-carried job config e f c d file i j x y is are own bond (flipped x.place i y.place j match.0) known.0
      twins.0,
  twins-own job config e f c d file i j xs ys is are own bond match.1 known.1 twins.1,
)
twins-own job config e f c d file i j [] (y ∷ ys) is are own bond match known twins = twins
twins-own job config e f c d file i j (x ∷ xs) [] is are own bond match known twins = twins

-- an entry that leaves alone which instances the job has, what its `start on` has seen, and the clock
pub record KeepsJob (job : Bytes) (config : Configuration) (e : Entry) (c : Chronicle) : Type 0 where
  pub instances : instances_of job (e ∷ c) ≡ instances_of job c
  pub starts : seen config (StartOn job) (e ∷ c) ≡ seen config (StartOn job) c
  pub today : now (e ∷ c) ≡ now c

abbrev pub IsPlain : Entry → Type 0
IsPlain (Given given) = ⊥
IsPlain (Offered (StartOn other) event) = ⊥
IsPlain (Fired (StartOn other) taken) = ⊥
IsPlain (Made file name) = ⊥
IsPlain (Entered i state.Waiting) = ⊥
IsPlain (Loaded jobs) = ⊥
IsPlain e = Unit {0}

pub quiet : (job : Bytes) (config : Configuration) (e : Entry) (c : Chronicle) → IsPlain e
    → KeepsJob job config e c
quiet job config (Given given) c is = absurd is
quiet job config (Offered (StartOn other) event) c is = absurd is
quiet job config (Offered (StopOn i) event) c is = record { instances = refl; starts = refl; today = refl }
quiet job config (Fired (StartOn other) taken) c is = absurd is
quiet job config (Fired (StopOn i) taken) c is = record { instances = refl; starts = refl; today = refl }
quiet job config (Made file name) c is = absurd is
quiet job config (Entered i state.Waiting) c is = absurd is
quiet job config (Loaded jobs) c is = absurd is
quiet job config e c is = record { instances = refl; starts = refl; today = refl }

-- two entries that show the same of the job
pub record Shows (job : Bytes) (config : Configuration) (e f : Entry) (c d : Chronicle) : Type 0 where
  pub notices : notices job config e c ≡ notices job (only job config) f d
  pub items : items job config e c ≡ items job (only job config) f d
  pub deeds : deeds_by job e c ≡ deeds_by job f d

pub part_more : (job : Bytes) (config : Configuration) (e f : Entry) (c d : Chronicle)
    → Shows job config e f c d → part job config c ≡ part job (only job config) d
    → part job config (e ∷ c) ≡ part job (only job config) (f ∷ d)
unfolding part
part_more job config e f c d shows same =
    ap₂ (λ ns is. noticed ns ++ is) shows.notices (ap₂ (λ is rest. is ++ rest) shows.items
    (ap₂ (λ (load : Bool) rest. if load then [] else rest) (loads-alike job config (only job config) e f c d shows.notices) same))

pub deeds_more : (job : Bytes) (config : Configuration) (e f : Entry) (c d : Chronicle)
    → Shows job config e f c d → deeds job c ≡ deeds job d
    → deeds job (e ∷ c) ≡ deeds job (f ∷ d)
unfolding deeds
deeds_more job config e f c d shows same = ap₂ (λ (xs ys : List Output). xs ++ ys) same shows.deeds

pub known-one : (job : Bytes) (e : Entry) (c : Chronicle) (x : Instance) → IsKnown job c x
    → IsKnown job (e ∷ c) x
known-one job e c x known = (
  omega (arith, known.0),
  rw (older-other (length c) x.place known.0) known.1,
  rw (older-other (length c) x.place known.0) known.2,
)

plain-singles : (e : Entry) (c : Chronicle) → IsPlain e → Singles c → Singles (e ∷ c)
plain-singles (Given given) c is singles = absurd is
plain-singles (Made file name) c is singles = absurd is
plain-singles (Entered i state.Waiting) c is singles = absurd is
plain-singles (Entered i to) c is singles = entered-singles i to c singles
plain-singles e c is singles = singles

-- so two instances stay alike
pub pair_more : (job : Bytes) (config : Configuration) (e f : Entry) (c d : Chronicle) (x y : Instance)
    → Pair job config c d x y
    → IsAboutOne x.place e → IsAboutOne y.place f → IsPlain e → IsPlain f → IsPast e c → IsPast f d
    → HoldsFair job e c
    → Bond job config (e ∷ c) (f ∷ d) x.file x.place y.place → Shows job config e f c d
    → Carries job config c d (e ∷ c) (f ∷ d) x y
pair_more job config e f c d x y pair is are plain flat past gone fair bond shows = record {
  pair = record {
    like = record {
      twins = subst₂ (λ xs ys. Twins (Twin job config (e ∷ c) (f ∷ d)) xs ys) (sym one.instances)
          (sym other.instances)
          (twins-own job config e f c d x.file x.place y.place (instances_of job c) (instances_of job d) is are
          pair.left.2 bond pair.match (known job c) pair.like.twins);
      starts = ap (told (start_tree job config)) one.starts ∙ pair.like.starts
          ∙ sym (ap (told (start_tree job config)) other.starts);
      today = one.today ∙ pair.like.today ∙ sym other.today;
      blank = blank_more config e c pair.like.blank past;
      empty = blank_more (only job config) f d pair.like.empty gone;
      fair = fair_more job e c pair.like.fair fair;
      singles = plain-singles e c plain pair.like.singles;
      part = part_more job config e f c d shows pair.like.part;
      deeds = deeds_more job config e f c d shows pair.like.deeds;
    };
    twin = record { name = pair.twin.name; file = pair.twin.file; bond = bond };
    left = known-one job e c x pair.left;
    right = known-one job f d y pair.right;
    match = subst₂ (λ xs ys. Twins (Match x.place y.place) xs ys) (sym one.instances) (sym other.instances)
        pair.match;
  };
  carries = λ u v same guest. record {
    twin = twin-carried job config e f c d x.file x.place y.place u v is are pair.left.2 bond same guest.left
        guest.twin;
    left = known-one job e c u guest.left;
    right = known-one job f d v guest.right;
    match = subst₂ (λ xs ys. Twins (Match u.place v.place) xs ys) (sym one.instances) (sym other.instances)
        guest.match;
  };
  shrinks = λ f g twins. subst₂ (λ xs ys. Twins (λ u v. f u ≡ g v) xs ys) (sym one.instances)
      (sym other.instances) twins;
}
  where
    one : KeepsJob job config e c
    one = quiet job config e c plain

    other : KeepsJob job (only job config) f d
    other = quiet job (only job config) f d flat

-- the job's own
pub own-true : (job : Bytes) (c : Chronicle) (x : Instance) → IsKnown job c x → owns job x.place c ≡ true
own-true job c x known = ap (is_of job) known.1 ∙ bytes_refl job

pub items-own : (b a : Bool) (one other : Item) → b ≡ true → a ≡ true → one ≡ other
    → items_if b one ≡ items_if a other
items-own b a one other is are same = rw (is, are, same) refl

pub outputs-own : (b a : Bool) (some others : List Output) → b ≡ true → a ≡ true → some ≡ others
    → outputs_if b some ≡ outputs_if a others
outputs-own b a some others is are same = rw (is, are, same) refl

pub made-same : (job : Bytes) (config : Configuration) (c d : Chronicle) (x y : Instance)
    → Pair job config c d x y → made_at x.place c ≡ made_at y.place d
made-same job config c d x y pair =
    pair.left.1 ∙ ap (λ name. Some (called job name)) pair.twin.name ∙ sym pair.right.1

pub name-same : (job : Bytes) (config : Configuration) (c d : Chronicle) (x y : Instance)
    → Pair job config c d x y → name_at x.place c ≡ name_at y.place d
name-same job config c d x y pair = ap parts.name_in (made-same job config c d x y pair)

-- what an entry shows that is an item by the instance's name alone
pub shows-item : (job : Bytes) (config : Configuration) (e f : Entry) (c d : Chronicle) (x y : Instance)
    (item : Bytes → Item) → Pair job config c d x y
    → notices job config e c ≡ notices job (only job config) f d
    → deeds_by job e c ≡ deeds_by job f d
    → items job config e c ≡ items_if (owns job x.place c) (item (name_at x.place c))
    → items job (only job config) f d ≡ items_if (owns job y.place d) (item (name_at y.place d))
    → Shows job config e f c d
shows-item job config e f c d x y item pair seen done left right = record {
  notices = seen;
  items = left ∙ items-own (owns job x.place c) (owns job y.place d) (item (name_at x.place c))
      (item (name_at y.place d)) (own-true job c x pair.left)
      (own-true job d y pair.right) (ap item (name-same job config c d x y pair)) ∙ sym right;
  deeds = done;
}

-- a bond under entries that leave holders and sights alone
pub bond-life : (job : Bytes) (config : Configuration) (e f : Entry) (c d : Chronicle) (file : JobDef) (i j : ℕ)
    → Bond job config c d file i j → life i (e ∷ c) ≡ life j (f ∷ d)
    → holders i (e ∷ c) ≡ holders i c → holders j (f ∷ d) ≡ holders j d
    → seen config (StopOn i) (e ∷ c) ≡ seen config (StopOn i) c
    → seen (only job config) (StopOn j) (f ∷ d) ≡ seen (only job config) (StopOn j) d
    → Bond job config (e ∷ c) (f ∷ d) file i j
bond-life job config e f c d file i j bond alike one other sight sights = record {
  alike = alike;
  held = held-later (holders i c) (holders i (e ∷ c)) e c one bond.older ∙ bond.held
      ∙ sym (held-later (holders j d) (holders j (f ∷ d)) f d other bond.older_there);
  older = grown (holders i c) (holders i (e ∷ c)) e c one bond.older;
  older_there = grown (holders j d) (holders j (f ∷ d)) f d other bond.older_there;
  sights = ap (told file.stop_on) sight ∙ bond.sights ∙ sym (ap (told file.stop_on) sights);
}

-- a failure
pub pair_failed : (job : Bytes) (config : Configuration) (c d : Chronicle) (x y : Instance) (its : Failure)
    → Pair job config c d x y
    → Carries job config c d (Failed x.place its ∷ c) (Failed y.place its ∷ d) x y
pair_failed job config c d x y its pair =
    pair_more job config (Failed x.place its) (Failed y.place its) c d x y pair refl refl tt tt pair.left.0
    pair.right.0 tt
    (bond-life job config (Failed x.place its) (Failed y.place its) c d x.file x.place y.place pair.twin.bond
    (lives.failed x.place y.place c d its pair.twin.bond.alike) refl refl refl refl)
    (shows-item job config (Failed x.place its) (Failed y.place its) c d x y (λ name. parts.Failed name its)
    pair refl refl refl refl)

-- a respawn
pub pair_respawned : (job : Bytes) (config : Configuration) (c d : Chronicle) (x y : Instance) (moment : ℕ)
    → Pair job config c d x y
    → Carries job config c d (Respawned x.place moment ∷ c) (Respawned y.place moment ∷ d) x y
pair_respawned job config c d x y moment pair =
    pair_more job config (Respawned x.place moment) (Respawned y.place moment) c d x y pair refl refl tt tt
    pair.left.0 pair.right.0 tt
    (bond-life job config (Respawned x.place moment) (Respawned y.place moment) c d x.file x.place y.place
    pair.twin.bond
    (lives.respawned x.place y.place moment c d pair.twin.bond.alike) refl refl refl refl)
    (shows-item job config (Respawned x.place moment) (Respawned y.place moment) c d x y
    (λ name. parts.Respawned name moment) pair refl refl refl refl)
