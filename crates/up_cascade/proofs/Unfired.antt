-- No expression in force is true, after any entry but an offer that makes one true and doesn't fire it.
use Rattle.std.proofs.Common.{◌≡◌, ℕ, zero, suc, ◌<◌, ◌≤◌, ◌==◌, Bool, true, false, List, [], ◌∷◌, ◌++◌, length, Option, None, Some, bytes_eq, if◌then◌else◌, refl, sym, ◌∙◌, ap, subst, arith, eqb-true, ne_eqb, append_assoc}
use Rattle.std.specs.List.{AllByRecursion}
use Rattle.up_conf.specs.declared.job.JobDef.{JobDef}
use Rattle.up_expr.specs.Trees.{Tree, One, Both, Either}
use Rattle.up_expr.specs.Truth as truth
use Rattle.up_model.specs.Chronicle.{Chronicle, Entry, Expression, Offered, Fired, Loaded, Made, StartOn, StopOn}
use Rattle.up_model.specs.Configuration.{Configuration}
use Rattle.up_model.specs.Instances.{Instance, instances_of}
use Rattle.up_model.specs.Moves.{may_leave, move}
use Rattle.up_model.specs.Offers.{stop_by, stop_offer, start_by, start_offer}
use Rattle.up_model.specs.Predicates.{entries_if}
use Rattle.up_model.specs.Readings.{entry_at, file_in, file_of}
use Rattle.up_model.specs.Seen.{same_expression, seen, holds, taken}
use Rattle.up_model.specs.Values.{Bytes}
use Rattle.up_model.proofs.LoadLaws.{seen-stop}
use Rattle.up_book.specs.Keeps.{AreDistinct}
use Rattle.up_book.specs.Keys.{job_at}
use Rattle.up_book.proofs.Keyed.{job-there}
use Rattle.up_book.proofs.One.{apart-back, nth-apart}
use Rattle.up_job.specs.Lists.{nth}
use Rattle.up_marks.proofs.SkipLemmas.{seen_other}
use Rattle.up_cascade.specs.Settling.{settle_one, settle_each, settle_all}
use Rattle.up_cascade.specs.Unfired.{NoneHolds}
use Rattle.up_cascade.proofs.Acts.{Acts, stop-by, start-by}
use Rattle.up_cascade.proofs.Opening.{About}
use Rattle.up_cascade.proofs.Resting.{move-about}

-- an expression that has seen nothing isn't true
tree-unseen : (tree : Tree) → truth.holds tree [] ≡ false
tree-unseen (One leaf) = refl
tree-unseen (Both left right) = rw (tree-unseen left) refl
tree-unseen (Either left right) = rw (tree-unseen left, tree-unseen right) refl

unseen : (condition : Option Tree) → holds condition [] ≡ false
unseen None = refl
unseen (Some tree) = tree-unseen tree

-- an entry that is no offer
abbrev pub IsUnoffered : Entry → Type 0
IsUnoffered (Offered x event) = ⊥
IsUnoffered entry = Unit {0}

-- leaves what an expression has seen, or takes it all
unheld-entry : (config : Configuration) (condition : Option Tree) (x : Expression) (e : Entry) (c : Chronicle) → IsUnoffered e → holds condition (seen config x c) ≡ false → holds condition (seen config x (e ∷ c)) ≡ false
unheld-entry config condition x (Offered other event) c is unheld = absurd is
unheld-entry config condition x (Fired other its) c is unheld = by_case (same_expression other x)
  where
    by_case : (b : Bool) → holds condition (if b then [] else seen config x c) ≡ false
    by_case true = unseen condition
    by_case false = unheld
unheld-entry config condition (StartOn job) (Loaded jobs) c is unheld = unseen condition
unheld-entry config condition (StopOn i) (Loaded jobs) c is unheld = unheld
unheld-entry config condition x e c is unheld = unheld

unseen-entry : (config : Configuration) (x : Expression) (e : Entry) (c : Chronicle) → IsUnoffered e → seen config x c ≡ [] → seen config x (e ∷ c) ≡ []
unseen-entry config x (Offered other event) c is none = absurd is
unseen-entry config x (Fired other its) c is none = by_case (same_expression other x)
  where
    by_case : (b : Bool) → (if b then [] else seen config x c) ≡ []
    by_case true = refl
    by_case false = none
unseen-entry config (StartOn job) (Loaded jobs) c is none = refl
unseen-entry config (StopOn i) (Loaded jobs) c is none = none
unseen-entry config x e c is none = none

-- the file of an instance that was made before an entry
file-before : (i : ℕ) (file : JobDef) (e : Entry) (c : Chronicle) → (length c == i) ≡ false → file_of i (e ∷ c) ≡ Some file → file_of i c ≡ Some file
file-before i file e c apart known = sym (ap (λ (b : Bool). file_in (if b then Some e else entry_at i c)) apart) ∙ known

-- an entry that makes none leaves it
abbrev MakesNone : Entry → Type 0
MakesNone (Made file name) = ⊥
MakesNone entry = Unit {0}

none-made : (e : Entry) → MakesNone e → file_in (Some e) ≡ None
none-made (Made file name) is = absurd is
none-made e is = refl

file-unmade : (i : ℕ) (file : JobDef) (e : Entry) (c : Chronicle) → MakesNone e → file_of i (e ∷ c) ≡ Some file → file_of i c ≡ Some file
file-unmade i file e c is known = by_case (length c == i) refl
  where
    by_case : (b : Bool) → (length c == i) ≡ b → file_of i c ≡ Some file
    by_case true same =
        let no : None ≡ Some file = sym (none-made e is) ∙ sym (ap (λ (b : Bool). file_in (if b then Some e else entry_at i c)) same) ∙ known in
        absurd cc
    by_case false apart = file-before i file e c apart known

pub none-entry : (config : Configuration) (e : Entry) (c : Chronicle) → IsUnoffered e → NoneHolds config c → NoneHolds config (e ∷ c)
none-entry config e c is none = record {
  starts = λ n job there. unheld-entry config job.start_on (StartOn job.name) e c is (none.starts n job there);
  stops = λ i file known. by_case i file known (length c == i) refl;
  unborn = λ i later. unseen-entry config (StopOn i) e c is (none.unborn i (omega (arith, later)));
}
  where
    by_case : (i : ℕ) (file : JobDef) → file_of i (e ∷ c) ≡ Some file → (b : Bool) → (length c == i) ≡ b → holds file.stop_on (seen config (StopOn i) (e ∷ c)) ≡ false
    by_case i file known true same =
        let first : length c ≤ i = omega (arith, eqb-true (length c) i same) in
        ap (holds file.stop_on) (unseen-entry config (StopOn i) e c is (none.unborn i first)) ∙ unseen file.stop_on
    by_case i file known false apart = unheld-entry config file.stop_on (StopOn i) e c is (none.stops i file (file-before i file e c apart known))

pub none-entries : (config : Configuration) (es c : List Entry) → AllByRecursion IsUnoffered es → NoneHolds config c → NoneHolds config (es ++ c)
none-entries config [] c all none = none
none-entries config (e ∷ es) c all none = none-entry config e (es ++ c) all.0 (none-entries config es c all.1 none)

some-same : {X : Type 0} {x y : X} → Some x ≡ Some y → x ≡ y
some-same e = cc

-- two jobs of one name are one
one-job : (jobs : List JobDef) (n m : ℕ) (a b : JobDef) → AreDistinct jobs → nth n jobs ≡ Some a → nth m jobs ≡ Some b → bytes_eq a.name b.name ≡ true → a ≡ b
one-job [] n m a b distinct first other same = absurd cc
one-job (j ∷ jobs) zero zero a b distinct first other same = sym (some-same first) ∙ some-same other
one-job (j ∷ jobs) zero (suc m) a b distinct first other same =
    let is : j ≡ a = some-same first in
    let apart : bytes_eq b.name j.name ≡ false = nth-apart m jobs b j other distinct.0 in
    let back : bytes_eq a.name b.name ≡ false = ap (λ (k : JobDef). bytes_eq k.name b.name) (sym is) ∙ apart-back b.name j.name apart in
    absurd cc
one-job (j ∷ jobs) (suc n) zero a b distinct first other same =
    let is : j ≡ b = some-same other in
    let apart : bytes_eq a.name j.name ≡ false = nth-apart n jobs a j first distinct.0 in
    let back : bytes_eq a.name b.name ≡ false = ap (λ (k : JobDef). bytes_eq a.name k.name) (sym is) ∙ apart in
    absurd cc
one-job (j ∷ jobs) (suc n) (suc m) a b distinct first other same = one-job jobs n m a b distinct.1 first other same

-- an offer that doesn't make its expression true
pub none-stop-offered : (config : Configuration) (file : JobDef) (i e : ℕ) (c : Chronicle) → i < length c → file_of i c ≡ Some file
    → holds file.stop_on (seen config (StopOn i) (Offered (StopOn i) e ∷ c)) ≡ false → NoneHolds config c → NoneHolds config (Offered (StopOn i) e ∷ c)
none-stop-offered config file i e c older known untrue none = record {
  starts = λ m other in_table. none.starts m other in_table;
  stops = λ j other known_j. by_case j other (file-unmade j other (Offered (StopOn i) e) c tt known_j) (i == j) refl;
  unborn = λ j later. seen_other config (StopOn j) (StopOn i) e c (ne_eqb i j (λ same. omega (arith, same, later, older))) ∙ none.unborn j (omega (arith, later));
}
  where
    d : Chronicle
    d = Offered (StopOn i) e ∷ c

    by_case : (j : ℕ) (other : JobDef) → file_of j c ≡ Some other → (b : Bool) → (i == j) ≡ b → holds other.stop_on (seen config (StopOn j) d) ≡ false
    by_case j other known_j true same =
        let is : i ≡ j = eqb-true i j same in
        let own : other ≡ file = some-same (sym known_j ∙ ap (λ k. file_of k c) (sym is) ∙ known) in
        ap (λ (k : JobDef). holds k.stop_on (seen config (StopOn j) d)) own ∙ ap (λ k. holds file.stop_on (seen config (StopOn k) d)) (sym is) ∙ untrue
    by_case j other known_j false apart = ap (holds other.stop_on) (seen_other config (StopOn j) (StopOn i) e c apart) ∙ none.stops j other known_j

pub none-start-offered : (config : Configuration) (job : JobDef) (n e : ℕ) (c : Chronicle) → AreDistinct config.jobs → job_at config n ≡ Some job
    → holds job.start_on (seen config (StartOn job.name) (Offered (StartOn job.name) e ∷ c)) ≡ false → NoneHolds config c → NoneHolds config (Offered (StartOn job.name) e ∷ c)
none-start-offered config job n e c distinct there untrue none = record {
  starts = λ m other in_table. by_case m other in_table (bytes_eq job.name other.name) refl;
  stops = λ j file known. none.stops j file (file-unmade j file (Offered (StartOn job.name) e) c tt known);
  unborn = λ j later. none.unborn j (omega (arith, later));
}
  where
    d : Chronicle
    d = Offered (StartOn job.name) e ∷ c

    by_case : (m : ℕ) (other : JobDef) → job_at config m ≡ Some other → (b : Bool) → bytes_eq job.name other.name ≡ b → holds other.start_on (seen config (StartOn other.name) d) ≡ false
    by_case m other in_table true same =
        let own : job ≡ other = one-job config.jobs n m job other distinct (job-there config n job there) (job-there config m other in_table) same in
        subst (λ (k : JobDef). holds k.start_on (seen config (StartOn k.name) d) ≡ false) own untrue
    by_case m other in_table false apart = ap (holds other.start_on) (seen_other config (StartOn other.name) (StartOn job.name) e c apart) ∙ none.starts m other in_table

-- an offer that does, and the firing
none-stop-fired : (config : Configuration) (i e : ℕ) (ts : List ℕ) (c : Chronicle) → NoneHolds config c → NoneHolds config (Fired (StopOn i) ts ∷ Offered (StopOn i) e ∷ c)
none-stop-fired config i e ts c none = record {
  starts = λ m other in_table. none.starts m other in_table;
  stops = λ j file known. by_case j file (file-unmade j file (Offered (StopOn i) e) c tt (file-unmade j file (Fired (StopOn i) ts) (Offered (StopOn i) e ∷ c) tt known)) (i == j);
  unborn = λ j later. seen-none j (omega (arith, later)) (i == j);
}
  where
    seen-none : (j : ℕ) → length c ≤ j → (b : Bool) → (if b then [] else (if b then seen config (StopOn j) c ++ Rattle.up_model.specs.Seen.sight_of e (Rattle.up_model.specs.Readings.event_at e c) (Rattle.up_model.specs.Seen.env_of config (StopOn j) c) else seen config (StopOn j) c)) ≡ []
    seen-none j later true = refl
    seen-none j later false = none.unborn j later

    by_case : (j : ℕ) (file : JobDef) → file_of j c ≡ Some file → (b : Bool)
        → holds file.stop_on (if b then [] else (if b then seen config (StopOn j) c ++ Rattle.up_model.specs.Seen.sight_of e (Rattle.up_model.specs.Readings.event_at e c) (Rattle.up_model.specs.Seen.env_of config (StopOn j) c) else seen config (StopOn j) c)) ≡ false
    by_case j file known true = unseen file.stop_on
    by_case j file known false = none.stops j file known

none-start-fired : (config : Configuration) (name : Bytes) (e : ℕ) (ts : List ℕ) (c : Chronicle) → NoneHolds config c → NoneHolds config (Fired (StartOn name) ts ∷ Offered (StartOn name) e ∷ c)
none-start-fired config name e ts c none = record {
  starts = λ m other in_table. by_case m other in_table (bytes_eq name other.name);
  stops = λ j file known. none.stops j file (file-unmade j file (Offered (StartOn name) e) c tt (file-unmade j file (Fired (StartOn name) ts) (Offered (StartOn name) e ∷ c) tt known));
  unborn = λ j later. none.unborn j (omega (arith, later));
}
  where
    by_case : (m : ℕ) (other : JobDef) → job_at config m ≡ Some other → (b : Bool)
        → holds other.start_on (if b then [] else (if b then seen config (StartOn other.name) c ++ Rattle.up_model.specs.Seen.sight_of e (Rattle.up_model.specs.Readings.event_at e c) (Rattle.up_model.specs.Seen.env_of config (StartOn other.name) c) else seen config (StartOn other.name) c)) ≡ false
    by_case m other in_table true = unseen other.start_on
    by_case m other in_table false = none.starts m other in_table

-- so after any offer
unoffered-acts : Acts IsUnoffered
unoffered-acts = record { fired = λ x its. tt; aimed = λ i aim environment its. tt; released = λ i failed. tt; replied = λ request answer. tt }

pub none-stop : (config : Configuration) (job : JobDef) (i e : ℕ) (c : Chronicle) → i < length c → file_of i c ≡ Some job → NoneHolds config c → NoneHolds config (stop_offer config job i e c ++ c)
none-stop config job i e c older known none = by_case (holds job.stop_on (seen config (StopOn i) d)) refl
  where
    d : Chronicle
    d = Offered (StopOn i) e ∷ c

    events : List ℕ
    events = taken job.stop_on (seen config (StopOn i) d)

    f : Chronicle
    f = Fired (StopOn i) events ∷ d

    order : ((stop_by i events f ++ Fired (StopOn i) events ∷ []) ++ Offered (StopOn i) e ∷ []) ++ c ≡ stop_by i events f ++ f
    order = append_assoc (stop_by i events f ++ Fired (StopOn i) events ∷ []) (Offered (StopOn i) e ∷ []) c ∙ append_assoc (stop_by i events f) (Fired (StopOn i) events ∷ []) d

    by_case : (b : Bool) → holds job.stop_on (seen config (StopOn i) d) ≡ b → NoneHolds config ((entries_if b (stop_by i events f ++ Fired (StopOn i) events ∷ []) ++ Offered (StopOn i) e ∷ []) ++ c)
    by_case true fires = subst (NoneHolds config) (sym order) (none-entries config (stop_by i events f) f (stop-by IsUnoffered unoffered-acts i events f) (none-stop-fired config i e events c none))
    by_case false untrue = none-stop-offered config job i e c older known untrue none

pub none-start : (config : Configuration) (job : JobDef) (n e : ℕ) (c : Chronicle) → AreDistinct config.jobs → job_at config n ≡ Some job → NoneHolds config c → NoneHolds config (start_offer config job e c ++ c)
none-start config job n e c distinct there none = by_case (holds job.start_on (seen config x d)) refl
  where
    x : Expression
    x = StartOn job.name

    d : Chronicle
    d = Offered x e ∷ c

    events : List ℕ
    events = taken job.start_on (seen config x d)

    f : Chronicle
    f = Fired x events ∷ d

    order : ((start_by config job events f ++ Fired x events ∷ []) ++ Offered x e ∷ []) ++ c ≡ start_by config job events f ++ f
    order = append_assoc (start_by config job events f ++ Fired x events ∷ []) (Offered x e ∷ []) c ∙ append_assoc (start_by config job events f) (Fired x events ∷ []) d

    by_case : (b : Bool) → holds job.start_on (seen config x d) ≡ b → NoneHolds config ((entries_if b (start_by config job events f ++ Fired x events ∷ []) ++ Offered x e ∷ []) ++ c)
    by_case true fires = subst (NoneHolds config) (sym order) (none-entries config (start_by config job events f) f (start-by IsUnoffered unoffered-acts config job (λ name. tt) events f) (none-start-fired config job.name e events c none))
    by_case false untrue = none-start-offered config job n e c distinct there untrue none

-- and after moves
about-unoffered : (i : ℕ) (e : Entry) → About i e → IsUnoffered e
about-unoffered i (Offered x event) is = absurd is
about-unoffered i e is = tt

all-unoffered : (i : ℕ) (es : List Entry) → AllByRecursion (About i) es → AllByRecursion IsUnoffered es
all-unoffered i [] all = tt
all-unoffered i (e ∷ es) all = (about-unoffered i e all.0, all-unoffered i es all.1)

pub none-about : (config : Configuration) (i : ℕ) (es c : List Entry) → AllByRecursion (About i) es → NoneHolds config c → NoneHolds config (es ++ c)
none-about config i es c all none = none-entries config es c (all-unoffered i es all) none

pub none-one : (n : ℕ) (config : Configuration) (job : JobDef) (x : Instance) (c : Chronicle) → NoneHolds config c → NoneHolds config (settle_one n job x c)
none-one zero config job x c none = none
none-one (suc n) config job x c none = by_case (may_leave job x.place c) (none-one n config job x (move job x c ++ c) (none-about config x.place (move job x c) c (move-about job x c) none))
  where
    by_case : (b : Bool) → NoneHolds config (settle_one n job x (move job x c ++ c)) → NoneHolds config (if b then settle_one n job x (move job x c ++ c) else c)
    by_case true moved = moved
    by_case false moved = none

pub none-each : (config : Configuration) (its : List Instance) (c : Chronicle) → NoneHolds config c → NoneHolds config (settle_each its c)
none-each config [] c none = none
none-each config (x ∷ its) c none = none-each config its (settle_one 5 x.file x c) (none-one 5 config x.file x c none)

pub none-all : (config : Configuration) (jobs : List JobDef) (c : Chronicle) → NoneHolds config c → NoneHolds config (settle_all jobs c)
none-all config [] c none = none
none-all config (job ∷ jobs) c none = none-all config jobs (settle_each (instances_of job.name c) c) (none-each config (instances_of job.name c) c none)

-- a load: no `start on` has seen anything then, and each `stop on` what it had seen
pub none-loaded : (config other : Configuration) (jobs : List JobDef) (c : Chronicle) → NoneHolds config c → NoneHolds other (Loaded jobs ∷ c)
none-loaded config other jobs c none = record {
  starts = λ n job there. unseen job.start_on;
  stops = λ i file known. ap (holds file.stop_on) (seen-stop other config i c) ∙ none.stops i file (file-unmade i file (Loaded jobs) c tt known);
  unborn = λ i later. seen-stop other config i c ∙ none.unborn i (omega (arith, later));
}

-- before anything has happened
pub none-first : (config : Configuration) → NoneHolds config []
none-first config = record {
  starts = λ n job there. unseen job.start_on;
  stops = λ i file known. unseen file.stop_on;
  unborn = λ i later. refl;
}
