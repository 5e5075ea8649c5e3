-- The entries of an index: their events ascend, each has places of one event alone, and together they are all places.
use Rattle.std.proofs.Common.{◌≡◌, ℕ, Bool, true, false, cond, List, [], ◌∷◌, map, bytes_eq, refl, sym, ◌∙◌, ap, subst}
use Rattle.std.specs.List.{list_all}
use Rattle.std.proofs.lemmas.Bool.{and_from, and_parts}
use Rattle.std.proofs.lemmas.Slice.Eq.{bytes_eq-Decides}
use Rattle.up_conf.specs.declared.job.JobDef.{JobDef}
use Rattle.up_conf.specs.Order.{is_below, in_order}
use Rattle.up_image.specs.declared.index.Place.{Place}
use Rattle.up_image.specs.Definable.{are_ascending}
use Rattle.up_image.specs.Index.{all_places, entries_of, event_of, is_entry, named, onto_runs, places_of, runs_of, NoneBelow, IsAscending}
use Rattle.up_image.proofs.PlaceOrder.{above, ascending-in_order, named-in_order}

onto-places : (x : Place) (runs : List (List Place)) → all_places (onto_runs x runs) ≡ x ∷ all_places runs
onto-places x [] = refl
onto-places x ([] ∷ runs) = refl
onto-places x ((next ∷ run) ∷ runs) = by_case (bytes_eq next.event x.event)
  where
    by_case : (b : Bool) → all_places (cond b ((x ∷ next ∷ run) ∷ runs) ((x ∷ []) ∷ (next ∷ run) ∷ runs)) ≡ x ∷ all_places ((next ∷ run) ∷ runs)
    by_case true = refl
    by_case false = refl

runs-places : (xs : List Place) → all_places (runs_of xs) ≡ xs
runs-places [] = refl
runs-places (x ∷ xs) = onto-places x (runs_of xs) ∙ ap (λ ys. x ∷ ys) (runs-places xs)

same_event : (x next : Place) (run : List Place) → bytes_eq next.event x.event ≡ true → is_entry (next ∷ run) ≡ true → is_entry (x ∷ next ∷ run) ≡ true
same_event x next run same all =
    let is : next.event ≡ x.event = (bytes_eq-Decides next.event x.event).0 same in
    and_from _ _ same (ap (λ (event : List ℕ). list_all (λ (other : Place). bytes_eq other.event event) run) (sym is) ∙ all)

onto-entries : (x : Place) (runs : List (List Place)) → list_all is_entry runs ≡ true → list_all is_entry (onto_runs x runs) ≡ true
onto-entries x [] all = refl
onto-entries x ([] ∷ runs) all = absurd (cc)
onto-entries x ((next ∷ run) ∷ runs) all = by_case (bytes_eq next.event x.event) refl
  where
    parts : (is_entry (next ∷ run) ≡ true) × (list_all is_entry runs ≡ true)
    parts = and_parts (is_entry (next ∷ run)) (list_all is_entry runs) all

    by_case : (b : Bool) → bytes_eq next.event x.event ≡ b → list_all is_entry (cond b ((x ∷ next ∷ run) ∷ runs) ((x ∷ []) ∷ (next ∷ run) ∷ runs)) ≡ true
    by_case true e = and_from _ _ (same_event x next run e parts.0) parts.1
    by_case false e = all

runs-entries : (xs : List Place) → list_all is_entry (runs_of xs) ≡ true
runs-entries [] = refl
runs-entries (x ∷ xs) = onto-entries x (runs_of xs) (runs-entries xs)

onto-ascending : (x : Place) (runs : List (List Place)) → list_all is_entry runs ≡ true → NoneBelow x.event (all_places runs) → are_ascending (map event_of runs) ≡ true
    → are_ascending (map event_of (onto_runs x runs)) ≡ true
onto-ascending x [] all none up = refl
onto-ascending x ([] ∷ runs) all none up = absurd (cc)
onto-ascending x ((next ∷ run) ∷ runs) all none up = by_case (bytes_eq next.event x.event) refl
  where
    by_case : (b : Bool) → bytes_eq next.event x.event ≡ b → are_ascending (map event_of (cond b ((x ∷ next ∷ run) ∷ runs) ((x ∷ []) ∷ (next ∷ run) ∷ runs))) ≡ true
    by_case true e =
        let is : next.event ≡ x.event = (bytes_eq-Decides next.event x.event).0 e in
        ap (λ (event : List ℕ). are_ascending (event ∷ map event_of runs)) (sym is) ∙ up
    by_case false e = and_from (is_below x.event next.event) _ (above next.event x.event none.0 e) up

runs-ascending : (xs : List Place) → IsAscending xs → are_ascending (map event_of (runs_of xs)) ≡ true
runs-ascending [] up = refl
runs-ascending (x ∷ xs) up =
    onto-ascending x (runs_of xs) (runs-entries xs) (subst (λ ys. NoneBelow x.event ys) (sym (runs-places xs)) up.0) (runs-ascending xs up.1)

-- the events of an index ascend
pub entries_ascend : (jobs : List JobDef) → are_ascending (map event_of (entries_of jobs)) ≡ true
unfolding entries_of
entries_ascend jobs = runs-ascending (in_order (λ place. place.event) (places_of 0 jobs)) (ascending-in_order (places_of 0 jobs))

-- each entry has places of one event alone
pub entries_apart : (jobs : List JobDef) → list_all is_entry (entries_of jobs) ≡ true
unfolding entries_of
entries_apart jobs = runs-entries (in_order (λ place. place.event) (places_of 0 jobs))

-- the places of an event are the leaves that name it
pub entries_whole : (jobs : List JobDef) (name : List ℕ) → named name (all_places (entries_of jobs)) ≡ named name (places_of 0 jobs)
unfolding entries_of
entries_whole jobs name =
    ap (named name) (runs-places (in_order (λ place. place.event) (places_of 0 jobs))) ∙ named-in_order name (places_of 0 jobs)
