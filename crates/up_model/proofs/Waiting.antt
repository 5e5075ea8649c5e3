-- At most one instance waits for an event.
use Rattle.std.proofs.Common.{◌≡◌, ℕ, ◌<◌, ◌==◌, ◌&&◌, Bool, true, false, [], ◌∷◌, length, Option, None, Some, if◌then◌else◌, refl, sym, ◌∙◌, arith, eqb-true}
use Rattle.std.proofs.lemmas.Bool.{and_parts}
use Rattle.up_model.specs.Chronicle.{Chronicle, Queued, Finished, Entering}
use Rattle.up_model.specs.Readings.{is_blocking, without, blocker}

-- what waits for an event once another has finished waited for it before
waited : (event : ℕ) (o : Option ℕ) (e : ℕ) → without event o ≡ Some e → o ≡ Some e
waited event None e is = absurd cc
waited event (Some other) e is = by_case (other == event) is
  where
    by_case : (b : Bool) → (if b then None else Some other) ≡ Some e → Some other ≡ Some e
    by_case true is = absurd cc
    by_case false is = is

-- no instance but the one that entered a state waits for the event that this queued
older : (i : ℕ) (c : Chronicle) (e : ℕ) → blocker i c ≡ Some e → e < length c
older i [] e is = absurd cc
older i (Queued (Entering other entered) event ∷ c) e is = by_case ((other == i) && is_blocking entered) is (older i c e)
  where
    by_case : (b : Bool) → (if b then Some (length c) else blocker i c) ≡ Some e → (blocker i c ≡ Some e → e < length c) → e < length (Queued (Entering other entered) event ∷ c)
    by_case true is rest =
        let same : length c ≡ e = cc in
        omega (arith, same)
    by_case false is rest = omega (arith, rest is)
older i (Finished event ∷ c) e is = omega (arith, older i c e (waited event (blocker i c) e is))
older i (entry ∷ c) e is = omega (arith, older i c e is)

pub waits-once : (i j : ℕ) (c : Chronicle) (e : ℕ) → blocker i c ≡ Some e → blocker j c ≡ Some e → i ≡ j
waits-once i j [] e mine its = absurd cc
waits-once i j (Queued (Entering other entered) event ∷ c) e mine its =
    by_case ((other == i) && is_blocking entered) ((other == j) && is_blocking entered) refl refl mine its (older i c e) (older j c e) (waits-once i j c e)
  where
    by_case : (a b : Bool) → ((other == i) && is_blocking entered) ≡ a → ((other == j) && is_blocking entered) ≡ b → (if a then Some (length c) else blocker i c) ≡ Some e → (if b then Some (length c) else blocker j c) ≡ Some e
        → (blocker i c ≡ Some e → e < length c) → (blocker j c ≡ Some e → e < length c) → (blocker i c ≡ Some e → blocker j c ≡ Some e → i ≡ j) → i ≡ j
    by_case true true first second mine its below under rest =
        sym (eqb-true other i (and_parts (other == i) (is_blocking entered) first).0) ∙ eqb-true other j (and_parts (other == j) (is_blocking entered) second).0
    by_case true false first second mine its below under rest =
        let same : length c ≡ e = cc in
        absurd (omega (arith, same, under its))
    by_case false true first second mine its below under rest =
        let same : length c ≡ e = cc in
        absurd (omega (arith, same, below mine))
    by_case false false first second mine its below under rest = rest mine its
waits-once i j (Finished event ∷ c) e mine its = waits-once i j c e (waited event (blocker i c) e mine) (waited event (blocker j c) e its)
waits-once i j (entry ∷ c) e mine its = waits-once i j c e mine its
