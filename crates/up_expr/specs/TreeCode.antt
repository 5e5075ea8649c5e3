-- How a tree is stored: as its nodes, each after those of its sides. The places that a node names aren't looked at.
use Rattle.std.specs.Prelude.{◌≡◌, ℕ, ◌+◌, ◌-◌, Bool, true, false, List, [], ◌∷◌, ◌++◌, Option, None, Some}
use Rattle.std.specs.Coded.{Coded, code_by, coded_list}
use Rattle.std.proofs.Common.{refl, ap, ◌∙◌}
use Rattle.up_expr.specs.declared.node.Node.{Node}
use Rattle.up_expr.specs.declared.node.Node.TheVariants as node
use Rattle.up_expr.specs.contracts.node.Node as coded
use Rattle.up_expr.specs.Flat.{nodes_of, size}
use Rattle.up_expr.specs.Trees.{Tree, One, Both, Either}

-- both of two, or either of two
abbrev pub join : Bool → Tree → Tree → Tree
join true left right = Both left right
join false left right = Either left right

-- trees of which the newest two are joined, the newest first; none where there aren't two
abbrev pub joined : Bool → List Tree → Option (List Tree)
joined both [] = None
joined both (right ∷ []) = None
joined both (right ∷ left ∷ trees) = Some (join both left right ∷ trees)

-- the same, of any trees
abbrev pub newest_joined : Bool → List Tree → List Tree
newest_joined both [] = []
newest_joined both (right ∷ []) = right ∷ []
newest_joined both (right ∷ left ∷ trees) = join both left right ∷ trees

-- the trees that nodes make of those so far, the newest first
abbrev pub trees_after : List Node → List Tree → List Tree
trees_after [] trees = trees
trees_after (node.Leaf leaf ∷ later) trees = trees_after later (One leaf ∷ trees)
trees_after (node.And left right ∷ later) trees = trees_after later (newest_joined true trees)
trees_after (node.Or left right ∷ later) trees = trees_after later (newest_joined false trees)

abbrev pub newest : List Tree → Tree
newest [] = One (record { event = []; values = [] })
newest (tree ∷ trees) = tree

-- the tree of nodes
abbrev pub tree_in : List Node → Tree
tree_in nodes = newest (trees_after nodes [])

pub trees_after-append : (front back : List Node) (trees : List Tree)
    → trees_after (front ++ back) trees ≡ trees_after back (trees_after front trees)
trees_after-append [] back trees = refl
trees_after-append (node.Leaf leaf ∷ front) back trees = trees_after-append front back (One leaf ∷ trees)
trees_after-append (node.And left right ∷ front) back trees =
    trees_after-append front back (newest_joined true trees)
trees_after-append (node.Or left right ∷ front) back trees =
    trees_after-append front back (newest_joined false trees)

pub trees_after-nodes : (start : ℕ) (tree : Tree) (trees : List Tree)
    → trees_after (nodes_of start tree) trees ≡ tree ∷ trees
trees_after-nodes start (One leaf) trees = refl
trees_after-nodes start (Both left right) trees =
    let front = nodes_of start left in
    let back = nodes_of (start + size left) right in
    let last = node.And (start + size left - 1) (start + size left + size right - 1) in
    trees_after-append (front ++ back) (last ∷ []) trees
    ∙ ap (λ ts. trees_after (last ∷ []) ts) (trees_after-append front back trees
    ∙ ap (λ ts. trees_after back ts) (trees_after-nodes start left trees)
    ∙ trees_after-nodes (start + size left) right (left ∷ trees))
trees_after-nodes start (Either left right) trees =
    let front = nodes_of start left in
    let back = nodes_of (start + size left) right in
    let last = node.Or (start + size left - 1) (start + size left + size right - 1) in
    trees_after-append (front ++ back) (last ∷ []) trees
    ∙ ap (λ ts. trees_after (last ∷ []) ts) (trees_after-append front back trees
    ∙ ap (λ ts. trees_after back ts) (trees_after-nodes start left trees)
    ∙ trees_after-nodes (start + size left) right (left ∷ trees))

pub tree_in-nodes : (start : ℕ) (tree : Tree) → tree_in (nodes_of start tree) ≡ tree
tree_in-nodes start tree = ap newest (trees_after-nodes start tree [])

-- a tree is stored as its nodes
abbrev pub tree_code : Coded Tree
tree_code = code_by (List Node) (coded_list coded.the_row.coded) (nodes_of 0) tree_in (tree_in-nodes 0)
