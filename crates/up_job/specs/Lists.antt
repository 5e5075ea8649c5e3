-- Lists changed at one place.
use Rattle.std.specs.Prelude.{ℕ, zero, suc, ◌+◌, List, [], ◌∷◌, Option, None, Some, if◌then◌else◌}
use Rattle.up_conf.specs.Order.{is_below, put_by}
use Rattle.up_model.specs.Values.{Bytes}

-- the list with the item at a place changed so, if there is one
abbrev pub with_at : {X : Type 0} → ℕ → (X → X) → List X → List X
with_at place f [] = []
with_at zero f (x ∷ xs) = f x ∷ xs
with_at (suc place) f (x ∷ xs) = x ∷ with_at place f xs

-- the item at a place
abbrev pub nth : {X : Type 0} → ℕ → List X → Option X
nth place [] = None
nth zero (x ∷ xs) = Some x
nth (suc place) (x ∷ xs) = nth place xs

-- the list without the item at a place
abbrev pub without_at : {X : Type 0} → ℕ → List X → List X
without_at place [] = []
without_at zero (x ∷ xs) = xs
without_at (suc place) (x ∷ xs) = x ∷ without_at place xs

-- one item more, in byte order of names
abbrev pub with_named : {X : Type 0} → (X → Bytes) → X → List X → List X
with_named name x xs = put_by (λ y z. is_below (name y) (name z)) x xs

-- where a name belongs among these in order
abbrev pub position_in : Bytes → List Bytes → ℕ
position_in name [] = 0
position_in name (other ∷ names) = if is_below other name then position_in name names + 1 else 0
