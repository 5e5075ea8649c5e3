-- How long parts are, one after another.
use Rattle.std.proofs.Common.{◌≡◌, ℕ, ◌+◌, ◌≤◌, ◌<◌, List, [], ◌∷◌, ◌++◌, length, get_or, take, sym, ap, ◌∙◌, arith, length-append, zero, suc, false, nat_le}
use Rattle.std.specs.List.{flat_map}
use Rattle.std.proofs.lemmas.List.{take_more, flat_map_more}
use Rattle.std.proofs.lemmas.Bool.{lt-leb}
use Rattle.up_image.specs.declared.limits.TheConstants.{MAX_IMAGE}

-- one item more
pub length_more : {X : Type 0} (part : X → List ℕ) (xs : List X) (i : ℕ) (d : X) → i < length xs
    → length (flat_map part (take (i + 1) xs)) ≡ length (flat_map part (take i xs)) + length (part (get_or xs i d))
length_more part xs i d below =
    ap (λ ys. length (flat_map part ys)) (take_more xs i d below)
    ∙ sym (ap length (flat_map_more part [] (take i xs) (get_or xs i d)))
    ∙ length-append (flat_map part (take i xs)) (part (get_or xs i d))

-- the front of a list has no more
pub front_shorter : {X : Type 0} (part : X → List ℕ) (xs : List X) (i : ℕ) → length (flat_map part (take i xs)) ≤ length (flat_map part xs)
front_shorter part [] zero = omega arith
front_shorter part [] (suc i) = omega arith
front_shorter part (x ∷ xs) zero = omega arith
front_shorter part (x ∷ xs) (suc i) =
    omega (arith, length-append (part x) (flat_map part (take i xs)), length-append (part x) (flat_map part xs), front_shorter part xs i)

-- with this item there are too many
pub too_long : {X : Type 0} (part : X → List ℕ) (xs : List X) (i : ℕ) (d : X) (back : List ℕ) (len : ℕ) → i < length xs
    → len ≡ 12 + length (flat_map part (take i xs)) → MAX_IMAGE < len + length (part (get_or xs i d)) → false ≡ nat_le (12 + length (flat_map part xs ++ back)) MAX_IMAGE
too_long part xs i d back len below so_far over =
    sym (lt-leb (12 + length (flat_map part xs ++ back)) MAX_IMAGE
    (omega (arith, so_far, over, length_more part xs i d below, front_shorter part xs (i + 1), length-append (flat_map part xs) back)))
