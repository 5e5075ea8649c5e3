-- What an expression says of the events that it has seen, oldest first (init(5), "start on").
use Rattle.std.specs.Prelude.{ℕ, Bool, ◌&&◌, ◌||◌, List, [], ◌∷◌, ◌++◌, Option, None, Some, if◌then◌else◌, is_some}
use Rattle.std.specs.Option.{option_to_list}
use Rattle.up_value.specs.Values.{Bytes, Bindings}
use Rattle.up_expr.specs.declared.expr.Leaf.{Leaf}
use Rattle.up_expr.specs.Trees.{Tree, One, Both, Either}
use Rattle.up_expr.specs.Matching.{matches}

-- an event that was offered to an expression: which one it is, its name and variables, and the environment by which the
-- expression's values expand at that moment
pub record Sight : Type 0 where
  pub event : ℕ
  pub name : Bytes
  pub vars : Bindings
  pub env : Bindings

-- the first event that a leaf matches
abbrev pub first : Leaf → List Sight → Option ℕ
first leaf [] = None
first leaf (sight ∷ sights) = if matches leaf sight.name sight.vars sight.env then Some sight.event
    else first leaf sights

-- whether an expression is true
abbrev pub holds : Tree → List Sight → Bool
holds (One leaf) sights = is_some (first leaf sights)
holds (Both left right) sights = holds left sights && holds right sights
holds (Either left right) sights = holds left sights || holds right sights

-- the events that it keeps: the first of each leaf that has one, from left to right
abbrev pub kept : Tree → List Sight → List ℕ
kept (One leaf) sights = option_to_list (first leaf sights)
kept (Both left right) sights = kept left sights ++ kept right sights
kept (Either left right) sights = kept left sights ++ kept right sights

-- the events by which it is true: of each leaf that is true and all of whose ancestors are
abbrev pub taken : Tree → List Sight → List ℕ
taken (One leaf) sights = option_to_list (first leaf sights)
taken (Both left right) sights = if holds left sights
    && holds right sights then taken left sights ++ taken right sights else []
taken (Either left right) sights = taken left sights ++ taken right sights
