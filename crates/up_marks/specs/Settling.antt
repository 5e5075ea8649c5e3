-- When marks are those of an expression's nodes, told of each node by itself and those that it joins.
use Rattle.std.specs.Prelude.{◌≡◌, ℕ, ◌<◌, ◌≤◌, ◌==◌, Bool, true, false, ◌&&◌, ◌||◌, List, Option, None, Some, get_or, is_some, length, slice_get}
use Rattle.up_expr.specs.declared.node.Node.{Node}
use Rattle.up_expr.specs.declared.node.Node.TheVariants as node
use Rattle.up_model.specs.declared.event_id.EventId.{EventId}
use Rattle.up_marks.specs.declared.mark.Mark.{Mark}
use Rattle.up_marks.specs.Marking.{Kept, unset}

-- whether one of the sides that a node joins has its root at this place
abbrev pub joins : Node → (place : ℕ) → Bool
joins (node.Leaf leaf) place = false
joins (node.And left right) place = left == place || right == place
joins (node.Or left right) place = left == place || right == place

-- the node above a place stands later and joins it; a place past all nodes says that none does
pub record IsAbove (nodes : List Node) (place above : ℕ) : Type 0 where
  pub later : place < above
  pub joined : (its : Node) → slice_get nodes above ≡ Some its → joins its place ≡ true
  pub none : length nodes ≤ above → (i : ℕ) (its : Node) → place < i → slice_get nodes i ≡ Some its → joins its place ≡ false

-- whether the node at a place is marked as true, and what it is marked to keep
abbrev pub true_at : List Mark → ℕ → Bool
true_at marks place = (get_or marks place unset).holds

abbrev pub kept_at : List Mark → ℕ → Option EventId
kept_at marks place = (get_or marks place unset).kept

-- whether a node is true, by what it keeps and by the marks of its sides
abbrev pub holds_by : Node → Option EventId → List Mark → Bool
holds_by (node.Leaf leaf) kept marks = is_some kept
holds_by (node.And left right) kept marks = true_at marks left && true_at marks right
holds_by (node.Or left right) kept marks = true_at marks left || true_at marks right

-- what a node keeps: a leaf what its place does, an operator nothing
abbrev pub keeps_by : Node → Option EventId → Option EventId
keeps_by (node.Leaf leaf) kept = kept
keeps_by (node.And left right) kept = None
keeps_by (node.Or left right) kept = None

-- each node keeps what it should, and each but the one at this place is marked as true if it is
pub record IsSettledBut (place : ℕ) (nodes : List Node) (kept : Kept) (marks : List Mark) : Type 0 where
  pub keeps : (i : ℕ) (its : Node) → slice_get nodes i ≡ Some its → kept_at marks i ≡ keeps_by its (kept i)
  pub holds : (i : ℕ) (its : Node) → (i ≡ place → ⊥) → slice_get nodes i ≡ Some its
      → true_at marks i ≡ holds_by its (kept_at marks i) marks
