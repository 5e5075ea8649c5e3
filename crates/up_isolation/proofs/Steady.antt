-- What a job notices, and its part, from the last load on, by the configuration that is in force since then.
use Rattle.std.proofs.Common.{◌≡◌, ℕ, zero, suc, Bool, true, false, List, [], ◌∷◌, ◌++◌, Option, None, Some, if◌then◌else◌}
use Rattle.std.proofs.Common.{refl, sym, ◌∙◌, ap, ap₂, append_assoc}
use Rattle.std.specs.List.{AllByRecursion}
use Rattle.up_model.specs.declared.event.Event.{Event}
use Rattle.up_model.specs.Chronicle.{Chronicle, Entry, Given, Handled, Finished, Loaded}
use Rattle.up_model.specs.Configuration.{Configuration}
use Rattle.up_model.specs.Instances.{Instance, instances_of}
use Rattle.up_model.specs.Loads.{in_force}
use Rattle.up_model.specs.Readings.{event_at, blocker}
use Rattle.up_model.specs.Values.{Bytes}
use Rattle.up_model.specs.Due.{due}
use Rattle.up_model.specs.Work.{settle}
use Rattle.up_model.proofs.LoadLaws.{IsNoLoad, due-no_load}
use Rattle.up_isolation.specs.Views.{Notice, Received, Arrived, Unblocked, Replaced, concerns, hears, is_blocked_by, unblocked, arrivals, notices}
use Rattle.up_isolation.specs.Views as views
use Rattle.up_isolation.specs.Parts.{Item, items, noticed}
use Rattle.up_isolation.specs.Parts as parts

abbrev pub is_load : Entry → Bool
is_load (Loaded jobs) = true
is_load entry = false

unfoldable pub view : Bytes → Configuration → Chronicle → List Notice
view job config [] = []
view job config (entry ∷ c) = notices job config entry c ++ (if is_load entry then [] else view job config c)

unfoldable pub part : Bytes → Configuration → Chronicle → List Item
part job config [] = []
part job config (entry ∷ c) =
    noticed (notices job config entry c) ++ (items job config entry c ++ (if is_load entry then [] else part job config c))

-- what was before that load
abbrev pub before : Chronicle → Chronicle
before [] = []
before (Loaded jobs ∷ c) = c
before (entry ∷ c) = before c

-- the whole is made of both
pub view-split : (job : Bytes) (start : Configuration) (c : Chronicle)
    → views.view job start c ≡ view job (in_force start c) c ++ views.view job start (before c)
unfolding view views.view
view-split job start [] = refl
view-split job start (Loaded jobs ∷ c) = refl
view-split job start (entry ∷ c) =
    ap (λ ns. notices job (in_force start c) entry c ++ ns) (view-split job start c)
    ∙ sym (append_assoc (notices job (in_force start c) entry c) (view job (in_force start c) c) (views.view job start (before c)))

pub part-split : (job : Bytes) (start : Configuration) (c : Chronicle)
    → parts.part job start c ≡ part job (in_force start c) c ++ parts.part job start (before c)
unfolding part parts.part
part-split job start [] = refl
part-split job start (Loaded jobs ∷ c) = refl
part-split job start (entry ∷ c) =
    ap (λ is. noticed (notices job (in_force start c) entry c) ++ (items job (in_force start c) entry c ++ is)) (part-split job start c)
    ∙ ap (λ is. noticed (notices job (in_force start c) entry c) ++ is)
    (sym (append_assoc (items job (in_force start c) entry c) (part job (in_force start c) c) (parts.part job start (before c))))
    ∙ sym (append_assoc (noticed (notices job (in_force start c) entry c)) (items job (in_force start c) entry c ++ part job (in_force start c) c)
    (parts.part job start (before c)))

-- other entries leave what was before
before-later : (e : Entry) (c : Chronicle) → IsNoLoad e → before (e ∷ c) ≡ before c
before-later (Loaded jobs) c none = absurd none
before-later e c none = refl

pub before-append : (es c : Chronicle) → AllByRecursion IsNoLoad es → before (es ++ c) ≡ before c
before-append [] c none = refl
before-append (e ∷ es) c none = before-later e (es ++ c) none.0 ∙ before-append es c none.1

pub settle-before : (n : ℕ) (config : Configuration) (c : Chronicle) → before (settle n config c) ≡ before c
unfolding settle
settle-before zero config c = refl
settle-before (suc n) config c =
    settle-before n config (due config c ++ c) ∙ before-append (due config c) c (due-no_load config c)

-- so the whole view grows by as much as that since the load
pub view-grown : (job : Bytes) (start : Configuration) (ns : List Notice) (c e : Chronicle)
    → in_force start e ≡ in_force start c → before e ≡ before c
    → view job (in_force start c) e ≡ ns ++ view job (in_force start c) c
    → views.view job start e ≡ ns ++ views.view job start c
view-grown job start ns c e force past grown =
    view-split job start e
    ∙ ap₂ (λ config b. view job config e ++ views.view job start b) force past
    ∙ ap (λ vs. vs ++ views.view job start (before c)) grown
    ∙ append_assoc ns (view job (in_force start c) c) (views.view job start (before c))
    ∙ ap (λ vs. ns ++ vs) (sym (view-split job start c))

-- a load is known by its notice
abbrev has_replaced : List Notice → Bool
has_replaced [] = false
has_replaced (Replaced files ∷ ns) = true
has_replaced (notice ∷ ns) = has_replaced ns

freed-others : (event : ℕ) (xs : List Instance) (c : Chronicle) → has_replaced (unblocked event xs c) ≡ false
freed-others event [] c = refl
freed-others event (x ∷ xs) c = by_case (is_blocked_by event (blocker x.place c)) (freed-others event xs c)
  where
    by_case : (b : Bool) → has_replaced (unblocked event xs c) ≡ false
        → has_replaced (if b then Unblocked x.name ∷ unblocked event xs c else unblocked event xs c) ≡ false
    by_case true rest = rest
    by_case false rest = rest

arrived-others : (job : Bytes) (config : Configuration) (o : Option Event) (c : Chronicle) → has_replaced (arrivals job config o c) ≡ false
arrived-others job config None c = refl
arrived-others job config (Some event) c = by_case (hears job config event.name c)
  where
    by_case : (b : Bool) → has_replaced (if b then Arrived event ∷ [] else []) ≡ false
    by_case true = refl
    by_case false = refl

given-others : (b : Bool) (notice : Notice) → has_replaced (notice ∷ []) ≡ false → has_replaced (if b then notice ∷ [] else []) ≡ false
given-others true notice is = is
given-others false notice is = refl

replaced-load : (job : Bytes) (config : Configuration) (e : Entry) (c : Chronicle) → has_replaced (notices job config e c) ≡ is_load e
replaced-load job config (Given given) c = given-others (concerns job given) (Received given) refl
replaced-load job config (Handled event) c = arrived-others job config (event_at event c) c
replaced-load job config (Finished event) c = freed-others event (instances_of job c) c
replaced-load job config (Loaded jobs) c = refl
replaced-load job config e c = refl

-- so of two entries that are noticed alike both are loads, or neither
pub loads-alike : (job : Bytes) (config other : Configuration) (e f : Entry) (c d : Chronicle)
    → notices job config e c ≡ notices job other f d → is_load e ≡ is_load f
loads-alike job config other e f c d same = sym (replaced-load job config e c) ∙ ap has_replaced same ∙ replaced-load job other f d
