-- Bytes that begin with parts.
use Rattle.std.proofs.Common.{◌≡◌, ℕ, ◌+◌, ◌<◌, zero, suc, Bool, false, List, [], ◌∷◌, ◌++◌, Decides, length, get_or, take, refl, sym, ap, ◌∙◌, append_assoc, arith}
use Rattle.std.specs.List.{flat_map}
use Rattle.std.proofs.lemmas.Bool.{false≢true}
use Rattle.std.proofs.lemmas.List.{append_cancel_left, flat_map_more, take_more}

-- after one part more
pub part_after : {X : Type 0} (part : X → List ℕ) (xs : List X) (i : ℕ) (d : X) (bytes rest back : List ℕ) → i < length xs
    → bytes ≡ flat_map part (take i xs) ++ rest → rest ≡ part (get_or xs i d) ++ back → bytes ≡ flat_map part (take (i + 1) xs) ++ back
part_after part xs i d bytes rest back below is goes =
    let x = get_or xs i d in
    is
    ∙ ap (λ r. flat_map part (take i xs) ++ r) goes
    ∙ sym (append_assoc (flat_map part (take i xs)) (part x) back)
    ∙ ap (λ front. front ++ back) (flat_map_more part [] (take i xs) x ∙ ap (λ ys. flat_map part ys) (sym (take_more xs i d below)))

-- where one part isn't there, all parts aren't
pub no_part_after : {X : Type 0} (part : X → List ℕ) (xs : List X) (i : ℕ) (d : X) (bytes rest : List ℕ) → i < length xs
    → bytes ≡ flat_map part (take i xs) ++ rest → ((back : List ℕ) → rest ≡ part (get_or xs i d) ++ back → ⊥) → (back : List ℕ) → bytes ≡ flat_map part xs ++ back → ⊥
no_part_after part [] i d bytes rest below is fails back all = absurd (omega (arith, below))
no_part_after part (x ∷ xs) zero d bytes rest below is fails back all =
    fails (flat_map part xs ++ back) (sym is ∙ all ∙ append_assoc (part x) (flat_map part xs) back)
no_part_after part (x ∷ xs) (suc i) d bytes rest below is fails back all =
    let front = flat_map part (take i xs) in
    let same : front ++ rest ≡ flat_map part xs ++ back =
    append_cancel_left (part x) (front ++ rest) (flat_map part xs ++ back)
    (sym (append_assoc (part x) front rest) ∙ sym is ∙ all ∙ append_assoc (part x) (flat_map part xs) back) in
    no_part_after part xs i d (front ++ rest) rest (omega (arith, below)) refl fails back same

-- what stands after the front decides
pub rest_decides : (front rest back bytes : List ℕ) (is : Bool) → bytes ≡ front ++ rest → Decides is (rest ≡ back) → Decides is (bytes ≡ front ++ back)
rest_decides front rest back bytes is goes decided = (
  λ yes. goes ∙ ap (λ r. front ++ r) (decided.0 yes),
  λ all. decided.1 (append_cancel_left front rest back (sym goes ∙ all)),
)

pub none_decides : {P : Type 0} → (P → ⊥) → Decides false P
none_decides fails = (λ yes. absurd (false≢true yes), λ it. absurd (fails it))
