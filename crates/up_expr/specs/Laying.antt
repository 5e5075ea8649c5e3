-- How the nodes of several expressions lie one after another.
use Rattle.std.specs.Prelude.{◌≡◌, ℕ, ◌+◌, ◌≤◌, Bool, true, false, List, [], ◌∷◌, ◌++◌, length}
use Rattle.up_expr.specs.declared.node.Node.{Node}
use Rattle.up_expr.specs.declared.node.Node.TheVariants as node
use Rattle.up_expr.specs.Flat.{nodes_of, size}
use Rattle.up_expr.specs.Trees.{Tree}
use Rattle.up_expr.specs.TreeCode.{tree_in, trees_after}

-- nodes are those of one tree, wherever its first node stands
abbrev pub IsLaid : List Node → Type 0
IsLaid nodes = (start : ℕ) × (nodes ≡ nodes_of start (tree_in nodes))

-- how many nodes trees have together
abbrev pub sizes : List Tree → ℕ
sizes [] = 0
sizes (tree ∷ trees) = sizes trees + size tree

-- the nodes of trees, of which the newest comes first and stands last
abbrev pub all_nodes : List Tree → List Node
all_nodes [] = []
all_nodes (tree ∷ trees) = all_nodes trees ++ nodes_of (sizes trees) tree

-- where the nodes of each begin, in their order
abbrev pub starts_of : List Tree → List ℕ
starts_of [] = []
starts_of (tree ∷ trees) = starts_of trees ++ sizes trees ∷ []

-- the node that joins two trees whose roots have these places
abbrev pub join_node : Bool → ℕ → ℕ → Node
join_node true left right = node.And left right
join_node false left right = node.Or left right

-- nodes with their beginnings are those of trees
pub record AreTrees (nodes : List Node) (starts : List ℕ) : Type 0 where
  pub laid : nodes ≡ all_nodes (trees_after nodes [])
  pub begun : starts ≡ starts_of (trees_after nodes [])
  pub few : length nodes ≤ 4095
