-- An expression as a flat list of nodes in post-order, and what such a list says.
use Rattle.std.specs.Prelude.{◌≡◌, ℕ, ◌+◌, ◌-◌, ◌≤◌, Bool, false, ◌&&◌, ◌||◌, List, [], ◌∷◌, ◌++◌, length, get_or, is_some}
use Rattle.up_expr.specs.declared.expr.Leaf.{Leaf}
use Rattle.up_expr.specs.declared.node.Node.{Node}
use Rattle.up_expr.specs.declared.node.Node.TheVariants as node
use Rattle.up_expr.specs.Trees.{Tree, One, Both, Either}
use Rattle.up_expr.specs.Truth.{Sight, first, holds}

-- how many nodes a tree has
abbrev pub size : Tree → ℕ
size (One leaf) = 1
size (Both left right) = size left + size right + 1
size (Either left right) = size left + size right + 1

-- the leaves of a tree, from left to right
abbrev pub leaves_of : Tree → List Leaf
leaves_of (One leaf) = leaf ∷ []
leaves_of (Both left right) = leaves_of left ++ leaves_of right
leaves_of (Either left right) = leaves_of left ++ leaves_of right

-- the nodes of a tree, the first of which stands at this place: those of the left side, those of the right side, and a node that names
-- the last of each
abbrev pub nodes_of : ℕ → Tree → List Node
nodes_of start (One leaf) = node.Leaf leaf ∷ []
nodes_of start (Both left right) =
    nodes_of start left ++ nodes_of (start + size left) right
    ++ node.And (start + size left - 1) (start + size left + size right - 1) ∷ []
nodes_of start (Either left right) =
    nodes_of start left ++ nodes_of (start + size left) right
    ++ node.Or (start + size left - 1) (start + size left + size right - 1) ∷ []

-- the leaves among nodes, in order
abbrev pub leaves_in : List Node → List Leaf
leaves_in [] = []
leaves_in (node.Leaf leaf ∷ nodes) = leaf ∷ leaves_in nodes
leaves_in (node.And left right ∷ nodes) = leaves_in nodes
leaves_in (node.Or left right ∷ nodes) = leaves_in nodes

-- whether a node is true, by the nodes before it: a node whose side doesn't stand before it takes that side as false
abbrev pub node_holds : List Bool → List Sight → Node → Bool
node_holds before sights (node.Leaf leaf) = is_some (first leaf sights)
node_holds before sights (node.And left right) = get_or before left false && get_or before right false
node_holds before sights (node.Or left right) = get_or before left false || get_or before right false

-- which nodes are true, after those of which this is known
abbrev pub truths : List Bool → List Sight → List Node → List Bool
truths before sights [] = before
truths before sights (next ∷ nodes) = truths (before ++ node_holds before sights next ∷ []) sights nodes

-- whether the last node is true, over the events that were seen
abbrev pub nodes_hold : List Node → List Sight → Bool
nodes_hold nodes sights = get_or (truths [] sights nodes) (length nodes - 1) false

-- the flat form of a tree: its nodes, at most 4,095; the root is true if the tree is, whatever was seen, and the leaves from left to
-- right are the tree's
pub record IsFlat (nodes : List Node) (tree : Tree) : Type 0 where
  pub laid : nodes ≡ nodes_of 0 tree
  pub few : length nodes ≤ 4095
  pub means : (sights : List Sight) → nodes_hold nodes sights ≡ holds tree sights
  pub leaves : leaves_in nodes ≡ leaves_of tree
