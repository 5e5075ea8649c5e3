-- Nodes of one tree, and what stands on both sides of its root.
use Rattle.std.proofs.Common.{◌≡◌, ℕ, ◌+◌, ◌-◌, ◌≤◌, Bool, true, false, List, [], ◌∷◌, ◌++◌, refl, sym, ap, ◌∙◌, subst, length, take, drop, get_or, arith, length-append}
use Rattle.std.proofs.lemmas.List.{length_push, get_or_at}
use Rattle.std.proofs.Math.Seq.{take-append_seam, drop-append_seam}
use Rattle.up_expr.specs.declared.node.Node.{Node}
use Rattle.up_expr.specs.declared.node.Node.TheVariants as node
use Rattle.up_expr.specs.declared.expr.Leaf.{Leaf}
use Rattle.up_expr.specs.Flat.{IsFlat, size, nodes_of}
use Rattle.up_expr.specs.Laying.{IsLaid, join_node}
use Rattle.up_expr.specs.Trees.{Tree, One, Both, Either}
use Rattle.up_expr.specs.TreeCode.{join, tree_in, tree_in-nodes}
use Rattle.up_expr.proofs.Flattening.{length_nodes, some_nodes}

-- the tree of nodes that are laid for a tree
pub tree_is : (nodes : List Node) (start : ℕ) (tree : Tree) → nodes ≡ nodes_of start tree → tree_in nodes ≡ tree
tree_is nodes start tree is = ap tree_in is ∙ tree_in-nodes start tree

pub is_laid : (nodes : List Node) (start : ℕ) (tree : Tree) → nodes ≡ nodes_of start tree → IsLaid nodes
is_laid nodes start tree is = (start, is ∙ ap (nodes_of start) (sym (tree_is nodes start tree is)))

-- flat nodes of a tree are those of their own
pub flat_own : (nodes : List Node) (tree : Tree) → IsFlat nodes tree → IsFlat nodes (tree_in nodes)
flat_own nodes tree flat = subst (λ t. IsFlat nodes t) (sym (tree_is nodes 0 tree flat.laid)) flat

pub flat_laid : (nodes : List Node) → IsFlat nodes (tree_in nodes) → IsLaid nodes
flat_laid nodes flat = (0, flat.laid)

-- lists that are equal with one item more each
front_apart : (a b : List Node) (x y : Node) → a ++ x ∷ [] ≡ b ++ y ∷ [] → a ≡ b
front_apart a b x y is =
    let long : length a ≡ length b = omega (arith, length_push a x, length_push b y, ap length is) in
    sym (take-append_seam a (x ∷ [])) ∙ ap (λ n. take n (a ++ x ∷ [])) long ∙ ap (λ xs. take (length b) xs) is ∙ take-append_seam b (y ∷ [])

last_apart : (a b : List Node) (x y : Node) → a ++ x ∷ [] ≡ b ++ y ∷ [] → x ≡ y
last_apart a b x y is =
    let long : length a ≡ length b = omega (arith, length_push a x, length_push b y, ap length is) in
    sym (get_or_at a x [] x (length a) refl) ∙ ap (λ n. get_or (a ++ x ∷ []) n x) long ∙ ap (λ xs. get_or xs (length b) x) is ∙ get_or_at b y [] x (length b) refl

-- a tree of which the node above its sides is known, and the nodes below it
pub record Sides (both : Bool) (tree : Tree) (below : List Node) (p q : ℕ) : Type 0 where
  pub start : ℕ
  pub left : Tree
  pub right : Tree
  pub is : tree ≡ join both left right
  pub order : p ≤ q
  pub within : q - p ≤ length below
  pub front : take (length below - (q - p)) below ≡ nodes_of start left
  pub back : drop (length below - (q - p)) below ≡ nodes_of (start + size left) right

-- the sides lie one after the other, and the place of each root tells where
sides_by : (both : Bool) (start : ℕ) (left right : Tree) (below : List Node) (p q : ℕ)
    → below ≡ nodes_of start left ++ nodes_of (start + size left) right → p ≡ start + size left - 1 → q ≡ start + size left + size right - 1
    → Sides both (join both left right) below p q
sides_by both start left right below p q is first second =
    let front = nodes_of start left in
    let back = nodes_of (start + size left) right in
    let apart : q - p ≡ size right = omega (arith, first, second, some_nodes left) in
    let long : length below ≡ size left + size right = omega (arith, ap length is, length-append front back, length_nodes start left, length_nodes (start + size left) right) in
    let cut : length below - (q - p) ≡ length front = omega (arith, long, apart, length_nodes start left) in
    record {
      start = start;
      left = left;
      right = right;
      is = refl;
      order = omega (arith, first, second, some_nodes left);
      within = omega (arith, long, apart);
      front = ap (λ n. take n below) cut ∙ ap (λ xs. take (length front) xs) is ∙ take-append_seam front back;
      back = ap (λ n. drop n below) cut ∙ ap (λ xs. drop (length front) xs) is ∙ drop-append_seam front back;
    }

and_left : (p q a b : ℕ) → node.And p q ≡ node.And a b → p ≡ a
and_left p q a b is = cc

and_right : (p q a b : ℕ) → node.And p q ≡ node.And a b → q ≡ b
and_right p q a b is = cc

or_left : (p q a b : ℕ) → node.Or p q ≡ node.Or a b → p ≡ a
or_left p q a b is = cc

or_right : (p q a b : ℕ) → node.Or p q ≡ node.Or a b → q ≡ b
or_right p q a b is = cc

-- the sides of a tree by its last node
and_sides : (start : ℕ) (tree : Tree) (below : List Node) (p q : ℕ) → below ++ node.And p q ∷ [] ≡ nodes_of start tree → Sides true tree below p q
and_sides start (One leaf) below p q is =
    let same = last_apart below [] (node.And p q) (node.Leaf leaf) is in absurd (cc)
and_sides start (Both left right) below p q is =
    let front = nodes_of start left ++ nodes_of (start + size left) right in
    let top = node.And (start + size left - 1) (start + size left + size right - 1) in
    let same : node.And p q ≡ top = last_apart below front (node.And p q) top is in
    sides_by true start left right below p q (front_apart below front (node.And p q) top is)
    (and_left p q (start + size left - 1) (start + size left + size right - 1) same) (and_right p q (start + size left - 1) (start + size left + size right - 1) same)
and_sides start (Either left right) below p q is =
    let front = nodes_of start left ++ nodes_of (start + size left) right in
    let same = last_apart below front (node.And p q) (node.Or (start + size left - 1) (start + size left + size right - 1)) is in absurd (cc)

or_sides : (start : ℕ) (tree : Tree) (below : List Node) (p q : ℕ) → below ++ node.Or p q ∷ [] ≡ nodes_of start tree → Sides false tree below p q
or_sides start (One leaf) below p q is =
    let same = last_apart below [] (node.Or p q) (node.Leaf leaf) is in absurd (cc)
or_sides start (Both left right) below p q is =
    let front = nodes_of start left ++ nodes_of (start + size left) right in
    let same = last_apart below front (node.Or p q) (node.And (start + size left - 1) (start + size left + size right - 1)) is in absurd (cc)
or_sides start (Either left right) below p q is =
    let front = nodes_of start left ++ nodes_of (start + size left) right in
    let top = node.Or (start + size left - 1) (start + size left + size right - 1) in
    let same : node.Or p q ≡ top = last_apart below front (node.Or p q) top is in
    sides_by false start left right below p q (front_apart below front (node.Or p q) top is)
    (or_left p q (start + size left - 1) (start + size left + size right - 1) same) (or_right p q (start + size left - 1) (start + size left + size right - 1) same)

leaf_tree : (start : ℕ) (tree : Tree) (below : List Node) (leaf : Leaf) → below ++ node.Leaf leaf ∷ [] ≡ nodes_of start tree → One leaf ≡ tree
leaf_tree start (One other) below leaf is =
    let same : node.Leaf leaf ≡ node.Leaf other = last_apart below [] (node.Leaf leaf) (node.Leaf other) is in cc
leaf_tree start (Both left right) below leaf is =
    let front = nodes_of start left ++ nodes_of (start + size left) right in
    let same = last_apart below front (node.Leaf leaf) (node.And (start + size left - 1) (start + size left + size right - 1)) is in absurd (cc)
leaf_tree start (Either left right) below leaf is =
    let front = nodes_of start left ++ nodes_of (start + size left) right in
    let same = last_apart below front (node.Leaf leaf) (node.Or (start + size left - 1) (start + size left + size right - 1)) is in absurd (cc)

-- the same of nodes that are laid, whose last one is known
pub sides_here : (both : Bool) (nodes below : List Node) (root : Node) (p q : ℕ)
    → IsLaid nodes → nodes ≡ below ++ root ∷ [] → root ≡ join_node both p q → Sides both (tree_in nodes) below p q
sides_here true nodes below root p q laid is at = and_sides laid.0 (tree_in nodes) below p q (ap (λ n. below ++ n ∷ []) (sym at) ∙ sym is ∙ laid.1)
sides_here false nodes below root p q laid is at = or_sides laid.0 (tree_in nodes) below p q (ap (λ n. below ++ n ∷ []) (sym at) ∙ sym is ∙ laid.1)

pub leaf_here : (nodes below : List Node) (root : Node) (leaf : Leaf) → IsLaid nodes → nodes ≡ below ++ root ∷ [] → root ≡ node.Leaf leaf → One leaf ≡ tree_in nodes
leaf_here nodes below root leaf laid is at = leaf_tree laid.0 (tree_in nodes) below leaf (ap (λ n. below ++ n ∷ []) (sym at) ∙ sym is ∙ laid.1)
