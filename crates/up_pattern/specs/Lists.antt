-- What a list begins with.
use Rattle.std.specs.Prelude.{Bool, false, List, [], ◌∷◌}

-- a list whose first item passes
abbrev pub begins : {X : Type 0} → (X → Bool) → List X → Bool
begins passes [] = false
begins passes (x ∷ xs) = passes x
