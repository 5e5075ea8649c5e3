-- A round that finds no job is followed by none that does.
use Rattle.std.proofs.Common.{◌≡◌, ℕ, zero, suc, ◌+◌, ◌≤◌, Bool, true, false, List, [], ◌∷◌, ◌++◌, length, cond, refl, sym, ap, ◌∙◌, arith, append_assoc, append-nil, length-append}
use Rattle.std.specs.List.{list_any}
use Rattle.std.specs.Str.{bytes_eq}
use Rattle.up_conf.specs.declared.job.JobDef.{JobDef}
use Rattle.up_lint.specs.Circles.{may_start, rounds, started_after, with_started}

-- a list with others after it
record Extends (old new : List (List ℕ)) : Type 0 where
  added : List (List ℕ)
  is : new ≡ old ++ added

one_more : (names commanded started : List (List ℕ)) (job : JobDef) → Extends started (with_started names commanded started job)
one_more names commanded started job = by_case (may_start names commanded started job) (list_any (bytes_eq job.name) started)
  where
    by_case : (may has : Bool) → Extends started (cond may (cond has started (started ++ job.name ∷ [])) started)
    by_case true true = record { added = []; is = sym (append-nil started) }
    by_case true false = record { added = job.name ∷ []; is = refl }
    by_case false has = record { added = []; is = sym (append-nil started) }

all_more : (names commanded started : List (List ℕ)) (others : List JobDef) → Extends started (started_after names commanded started others)
all_more names commanded started [] = record { added = []; is = sym (append-nil started) }
all_more names commanded started (job ∷ others) =
    let first = one_more names commanded started job in
    let rest = all_more names commanded (with_started names commanded started job) others in
    record { added = first.added ++ rest.added; is = rest.is ∙ ap (λ it. it ++ rest.added) first.is ∙ append_assoc started first.added rest.added }

-- a list of the same length has nothing more
same_length : (old new : List (List ℕ)) → Extends old new → length new ≡ length old → new ≡ old
same_length old new more same = by_added more.added more.is
  where
    by_added : (added : List (List ℕ)) → new ≡ old ++ added → new ≡ old
    by_added [] is = is ∙ append-nil old
    by_added (x ∷ xs) is = let long : length new ≡ length old + length (x ∷ xs) = ap length is ∙ length-append old (x ∷ xs) in absurd (omega (arith, long, same))

stays : (n : ℕ) (names commanded : List (List ℕ)) (jobs : List JobDef) (started : List (List ℕ)) → started_after names commanded started jobs ≡ started → rounds n names commanded jobs started ≡ started
stays zero names commanded jobs started same = refl
stays (suc n) names commanded jobs started same = ap (rounds n names commanded jobs) same ∙ stays n names commanded jobs started same

-- nothing was found in a round
pub rounds_done : (n : ℕ) (names commanded : List (List ℕ)) (jobs : List JobDef) (started found : List (List ℕ)) → found ≡ started_after names commanded started jobs → length found ≡ length started → found ≡ rounds n names commanded jobs started
rounds_done n names commanded jobs started found is same =
    let long : length (started_after names commanded started jobs) ≡ length started = ap length (sym is) ∙ same in
    let fixed = same_length started (started_after names commanded started jobs) (all_more names commanded started jobs) long in
    is ∙ fixed ∙ sym (stays n names commanded jobs started fixed)

-- no round is left
pub rounds_none : (n : ℕ) (names commanded : List (List ℕ)) (jobs : List JobDef) (started : List (List ℕ)) → n ≤ 0 → started ≡ rounds n names commanded jobs started
rounds_none zero names commanded jobs started none = refl
rounds_none (suc n) names commanded jobs started none = absurd (omega (arith, none))
