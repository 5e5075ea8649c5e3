-- Lists of what has a name, in byte order of the names.
use Rattle.std.specs.Prelude.{◌≡◌, ℕ, ◌+◌, true, List, [], ◌∷◌, Option, None, Some, option_map, if◌then◌else◌}
use Rattle.std.specs.Str.{bytes_eq}
use Rattle.up_conf.specs.Order.{is_below, put_by}
use Rattle.up_model.specs.Values.{Bytes}

-- the first one of this name
abbrev pub named : {X : Type 0} → (X → Bytes) → Bytes → List X → Option X
named key name [] = None
named key name (x ∷ xs) = if bytes_eq (key x) name then Some x else named key name xs

-- where the first one of this name stands
abbrev pub place_of : {X : Type 0} → (X → Bytes) → Bytes → List X → Option ℕ
place_of key name [] = None
place_of key name (x ∷ xs) = if bytes_eq (key x) name then Some 0
    else option_map (λ at. at + 1) (place_of key name xs)

-- where a name belongs
abbrev pub position : {X : Type 0} → (X → Bytes) → Bytes → List X → ℕ
position key name [] = 0
position key name (x ∷ xs) = if is_below (key x) name then position key name xs + 1 else 0

-- one more, in byte order of names
abbrev pub put : {X : Type 0} → (X → Bytes) → X → List X → List X
put key x xs = put_by (λ y z. is_below (key y) (key z)) x xs

-- the first one of this name changed so
abbrev pub with_change : {X : Type 0} → (X → Bytes) → Bytes → (X → X) → List X → List X
with_change key name f [] = []
with_change key name f (x ∷ xs) = if bytes_eq (key x) name then f x ∷ xs
    else x ∷ with_change key name f xs

-- all but the first one of this name
abbrev pub without : {X : Type 0} → (X → Bytes) → Bytes → List X → List X
without key name [] = []
without key name (x ∷ xs) = if bytes_eq (key x) name then xs else x ∷ without key name xs

-- a name is below all of theirs
abbrev pub IsBelowAll : {X : Type 0} → (X → Bytes) → Bytes → List X → Type 0
IsBelowAll key name [] = Unit {0}
IsBelowAll key name (x ∷ xs) = (is_below name (key x) ≡ true) × IsBelowAll key name xs

-- each name is below those after it
abbrev pub AreInOrder : {X : Type 0} → (X → Bytes) → List X → Type 0
AreInOrder key [] = Unit {0}
AreInOrder key (x ∷ xs) = IsBelowAll key (key x) xs × AreInOrder key xs
