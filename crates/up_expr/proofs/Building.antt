-- Trees that are made of nodes, one after another.
use Rattle.std.proofs.Common.{◌≡◌, ℕ, ◌+◌, ◌-◌, ◌<◌, ◌≤◌, Bool, true, false, List, [], ◌∷◌, ◌++◌, None, Some, refl, sym, ap, ◌∙◌, length, take, get_or, arith, length-append, append_assoc}
use Rattle.std.proofs.lemmas.List.{length_push, get_or_at}
use Rattle.std.proofs.Math.Seq.{take-append_seam}
use Rattle.up_expr.specs.declared.flat.TheConstants.{MAX_NODES}
use Rattle.up_expr.specs.declared.node.Node.{Node}
use Rattle.up_expr.specs.declared.node.Node.TheVariants as node
use Rattle.up_expr.specs.declared.expr.Leaf.{Leaf}
use Rattle.up_expr.specs.Flat.{IsFlat, size, nodes_of}
use Rattle.up_expr.specs.Laying.{AreTrees, all_nodes, join_node, sizes, starts_of}
use Rattle.up_expr.specs.Trees.{Tree, One}
use Rattle.up_expr.specs.TreeCode.{join, joined, newest, tree_in, trees_after, trees_after-append}
use Rattle.up_expr.proofs.Flattening.{length_nodes, flat_kept}

length_all : (trees : List Tree) → length (all_nodes trees) ≡ sizes trees
length_all [] = refl
length_all (tree ∷ trees) = omega (arith, length-append (all_nodes trees) (nodes_of (sizes trees) tree), length_all trees, length_nodes (sizes trees) tree)

length_starts : (trees : List Tree) → length (starts_of trees) ≡ length trees
length_starts [] = refl
length_starts (tree ∷ trees) = omega (arith, length_push (starts_of trees) (sizes trees), length_starts trees)

-- as many beginnings as trees, and as many nodes as the trees have
pub count_is : (nodes : List Node) (starts : List ℕ) → AreTrees nodes starts → length starts ≡ length (trees_after nodes [])
count_is nodes starts are = ap length are.begun ∙ length_starts (trees_after nodes [])

pub long_is : (nodes : List Node) (starts : List ℕ) → AreTrees nodes starts → length nodes ≡ sizes (trees_after nodes [])
long_is nodes starts are = ap length are.laid ∙ length_all (trees_after nodes [])

are_trees : (nodes : List Node) (starts : List ℕ) (trees : List Tree) → trees_after nodes [] ≡ trees
    → nodes ≡ all_nodes trees → starts ≡ starts_of trees → length nodes ≤ MAX_NODES → AreTrees nodes starts
are_trees nodes starts trees is laid begun few = record {
  laid = laid ∙ ap all_nodes (sym is);
  begun = begun ∙ ap starts_of (sym is);
  few = few;
}

-- a leaf more
pub leaf_more : (nodes : List Node) (leaf : Leaf) → trees_after (nodes ++ node.Leaf leaf ∷ []) [] ≡ One leaf ∷ trees_after nodes []
leaf_more nodes leaf = trees_after-append nodes (node.Leaf leaf ∷ []) []

pub leaf_added : (nodes : List Node) (starts : List ℕ) (leaf : Leaf) → AreTrees nodes starts → sizes (trees_after nodes []) < MAX_NODES
    → AreTrees (nodes ++ node.Leaf leaf ∷ []) (starts ++ length nodes ∷ [])
leaf_added nodes starts leaf are less =
    let trees = trees_after nodes [] in
    are_trees (nodes ++ node.Leaf leaf ∷ []) (starts ++ length nodes ∷ []) (One leaf ∷ trees) (leaf_more nodes leaf)
    (ap (λ xs. xs ++ node.Leaf leaf ∷ []) are.laid)
    (ap (λ xs. xs ++ length nodes ∷ []) are.begun ∙ ap (λ n. starts_of trees ++ n ∷ []) (long_is nodes starts are))
    (omega (arith, length_push nodes (node.Leaf leaf), long_is nodes starts are, less))

-- the newest two joined, and all that was made of them
pub record Joins (both : Bool) (trees : List Tree) (nodes : List Node) (starts : List ℕ) : Type 0 where
  pub joins : joined both trees ≡ Some (trees_after nodes [])
  pub are : AreTrees nodes starts

-- the node above both sides
join_laid : (both : Bool) (start : ℕ) (left right : Tree)
    → nodes_of start (join both left right) ≡ (nodes_of start left ++ nodes_of (start + size left) right) ++ join_node both (start + size left - 1) (start + size left + size right - 1) ∷ []
join_laid true start left right = refl
join_laid false start left right = refl

join_more : (both : Bool) (nodes : List Node) (left right : Tree) (older : List Tree) (p q : ℕ) → trees_after nodes [] ≡ right ∷ left ∷ older
    → trees_after (nodes ++ join_node both p q ∷ []) [] ≡ join both left right ∷ older
join_more true nodes left right older p q is = trees_after-append nodes (node.And p q ∷ []) [] ∙ ap (λ ts. trees_after (node.And p q ∷ []) ts) is
join_more false nodes left right older p q is = trees_after-append nodes (node.Or p q ∷ []) [] ∙ ap (λ ts. trees_after (node.Or p q ∷ []) ts) is

two_joined : (both : Bool) (nodes : List Node) (starts : List ℕ) (left right : Tree) (older : List Tree) → trees_after nodes [] ≡ right ∷ left ∷ older
    → AreTrees nodes starts → length nodes < MAX_NODES
    → Joins both (right ∷ left ∷ older) (nodes ++ join_node both (get_or starts (length starts - 1) 0 - 1) (length nodes - 1) ∷ []) (take (length starts - 1) starts)
two_joined both nodes starts left right older is are less =
    let s = sizes older in
    let front = starts_of older ++ s ∷ [] in
    let begun : starts ≡ front ++ (s + size left) ∷ [] = are.begun ∙ ap starts_of is in
    let cut : length starts - 1 ≡ length front = omega (arith, ap length begun, length_push front (s + size left)) in
    let last : get_or starts (length starts - 1) 0 ≡ s + size left = ap (λ n. get_or starts n 0) cut ∙ ap (λ xs. get_or xs (length front) 0) begun ∙ get_or_at front (s + size left) [] 0 (length front) refl in
    let long : length nodes ≡ s + size left + size right = long_is nodes starts are ∙ ap sizes is in
    let top = join_node both (get_or starts (length starts - 1) 0 - 1) (length nodes - 1) in
    let next = join_node both (s + size left - 1) (s + size left + size right - 1) in
    let same : top ≡ next = ap (λ p. join_node both (p - 1) (length nodes - 1)) last ∙ ap (λ q. join_node both (s + size left - 1) (q - 1)) long in
    let whole = join both left right ∷ older in
    let more = join_more both nodes left right older (get_or starts (length starts - 1) 0 - 1) (length nodes - 1) is in
    record {
      joins = ap (λ ts. Some ts) (sym more);
      are = are_trees (nodes ++ top ∷ []) (take (length starts - 1) starts) whole more
          (ap (λ n. nodes ++ n ∷ []) same
          ∙ ap (λ xs. xs ++ next ∷ []) (are.laid ∙ ap all_nodes is ∙ append_assoc (all_nodes older) (nodes_of s left) (nodes_of (s + size left) right))
          ∙ append_assoc (all_nodes older) (nodes_of s left ++ nodes_of (s + size left) right) (next ∷ [])
          ∙ ap (λ xs. all_nodes older ++ xs) (sym (join_laid both s left right)))
          (ap (λ n. take n starts) cut ∙ ap (λ xs. take (length front) xs) begun ∙ take-append_seam front ((s + size left) ∷ []))
          (omega (arith, length_push nodes top, less));
    }

joined_by : (both : Bool) (nodes : List Node) (starts : List ℕ) (trees : List Tree) → trees_after nodes [] ≡ trees → AreTrees nodes starts
    → 2 ≤ length trees → length nodes < MAX_NODES
    → Joins both trees (nodes ++ join_node both (get_or starts (length starts - 1) 0 - 1) (length nodes - 1) ∷ []) (take (length starts - 1) starts)
joined_by both nodes starts [] is are two less = absurd (omega (arith, two))
joined_by both nodes starts (one ∷ []) is are two less = absurd (omega (arith, two))
joined_by both nodes starts (right ∷ left ∷ older) is are two less = two_joined both nodes starts left right older is are less

pub join_added : (both : Bool) (nodes : List Node) (starts : List ℕ) → AreTrees nodes starts → 2 ≤ length starts → sizes (trees_after nodes []) < MAX_NODES
    → Joins both (trees_after nodes []) (nodes ++ join_node both (get_or starts (length starts - 1) 0 - 1) (length nodes - 1) ∷ []) (take (length starts - 1) starts)
join_added both nodes starts are two less =
    joined_by both nodes starts (trees_after nodes []) refl are (omega (arith, two, count_is nodes starts are)) (omega (arith, less, long_is nodes starts are))

-- fewer than two trees aren't joined
few_trees : (both : Bool) (trees : List Tree) → length trees < 2 → joined both trees ≡ None
few_trees both [] few = refl
few_trees both (one ∷ []) few = refl
few_trees both (right ∷ left ∷ older) few = absurd (omega (arith, few))

pub not_joined : (both : Bool) (nodes : List Node) (starts : List ℕ) → AreTrees nodes starts → length starts < 2 → joined both (trees_after nodes []) ≡ None
not_joined both nodes starts are few = few_trees both (trees_after nodes []) (omega (arith, few, count_is nodes starts are))

-- one tree alone
one_newest : (trees : List Tree) → length trees ≡ 1 → trees ≡ newest trees ∷ []
one_newest [] one = absurd (omega (arith, one))
one_newest (tree ∷ []) one = refl
one_newest (tree ∷ other ∷ trees) one = absurd (omega (arith, one))

pub one_tree : (nodes : List Node) → length (trees_after nodes []) ≡ 1 → trees_after nodes [] ≡ tree_in nodes ∷ []
one_tree nodes one = one_newest (trees_after nodes []) one

pub one_flat : (nodes : List Node) (starts : List ℕ) → AreTrees nodes starts → length (trees_after nodes []) ≡ 1 → IsFlat nodes (tree_in nodes)
one_flat nodes starts are one = flat_kept nodes (tree_in nodes) (are.laid ∙ ap all_nodes (one_tree nodes one)) are.few
