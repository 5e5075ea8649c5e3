-- Lists in order.
use Rattle.std.specs.Prelude.{Bool, if◌then◌else◌, List, [], ◌∷◌}
use Rattle.std.specs.Ordering.{is_lt, nat_cmp}
use Rattle.std.specs.Cmp.Lexicographic.{slice_cmp}
use Rattle.up_value.specs.Values.{Bytes}

-- an item goes before the first one that isn't less
abbrev pub put_by : {X : Type 0} → (X → X → Bool) → X → List X → List X
put_by less x [] = x ∷ []
put_by less x (y ∷ ys) = if less y x then y ∷ put_by less x ys else x ∷ y ∷ ys

-- the items from the least on; those that tie keep their order
abbrev pub sort_by_order : {X : Type 0} → (X → X → Bool) → List X → List X
sort_by_order less [] = []
sort_by_order less (x ∷ xs) = put_by less x (sort_by_order less xs)

-- byte order: by the first byte that differs, and a text before those that it begins
abbrev pub is_below : Bytes → Bytes → Bool
is_below bytes others = is_lt (slice_cmp nat_cmp bytes others)

-- the items in byte order of their keys; those with one key keep their order
abbrev pub in_order : {X : Type 0} → (X → Bytes) → List X → List X
in_order key xs = sort_by_order (λ x y. is_below (key x) (key y)) xs
