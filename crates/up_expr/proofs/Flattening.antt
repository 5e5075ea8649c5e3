-- The nodes of a tree mean what the tree means.
use Rattle.std.proofs.Common.{◌≡◌, ℕ, ◌+◌, ◌-◌, ◌<◌, ◌≤◌, Bool, false, List, [], ◌∷◌, ◌++◌, refl, sym, ap, ◌∙◌, length, get_or, arith, length-append, append_assoc}
use Rattle.std.proofs.lemmas.List.{append-nil, get_or_append_left, length_push, get_or_at}
use Rattle.std.specs.Prelude.{is_some}
use Rattle.up_expr.specs.declared.node.Node.{Node}
use Rattle.up_expr.specs.declared.node.Node.TheVariants as node
use Rattle.up_expr.specs.Flat.{IsFlat, size, nodes_of, leaves_of, leaves_in, node_holds, truths, nodes_hold}
use Rattle.up_expr.specs.Trees.{Tree, One, Both, Either}
use Rattle.up_expr.specs.Truth.{Sight, first, holds}

-- a tree has as many nodes as its size says
pub length_nodes : (start : ℕ) (tree : Tree) → length (nodes_of start tree) ≡ size tree
length_nodes start (One leaf) = refl
length_nodes start (Both left right) =
    let back = nodes_of (start + size left) right in
    let last = node.And (start + size left - 1) (start + size left + size right - 1) in
    omega (arith, length_push (nodes_of start left ++ back) last, length-append (nodes_of start left) back, length_nodes start left, length_nodes (start + size left) right)
length_nodes start (Either left right) =
    let back = nodes_of (start + size left) right in
    let last = node.Or (start + size left - 1) (start + size left + size right - 1) in
    omega (arith, length_push (nodes_of start left ++ back) last, length-append (nodes_of start left) back, length_nodes start left, length_nodes (start + size left) right)

pub some_nodes : (tree : Tree) → 0 < size tree
some_nodes (One leaf) = omega arith
some_nodes (Both left right) = omega arith
some_nodes (Either left right) = omega arith

-- how long a list is after the nodes of a tree
pub side_long : (old new : List Node) (tree : Tree) → new ≡ old ++ nodes_of (length old) tree → length new ≡ length old + size tree
side_long old new tree is = ap length is ∙ length-append old (nodes_of (length old) tree) ∙ ap (λ n. length old + n) (length_nodes (length old) tree)

-- the nodes of one side, then those of the other
pub sides_laid : (old left all : List Node) (l r : Tree) → left ≡ old ++ nodes_of (length old) l → all ≡ left ++ nodes_of (length left) r
    → all ≡ old ++ (nodes_of (length old) l ++ nodes_of (length old + size l) r)
sides_laid old left all l r first second =
    second ∙ ap (λ n. left ++ nodes_of n r) (side_long old left l first) ∙ ap (λ xs. xs ++ nodes_of (length old + size l) r) first
    ∙ append_assoc old (nodes_of (length old) l) (nodes_of (length old + size l) r)

-- and the node above them
pub both_laid : (old left right all : List Node) (l r : Tree) (p q : ℕ) → left ≡ old ++ nodes_of (length old) l → p ≡ length old + size l - 1
    → right ≡ left ++ nodes_of (length left) r → q ≡ length left + size r - 1 → all ≡ right ++ node.And p q ∷ [] → all ≡ old ++ nodes_of (length old) (Both l r)
both_laid old left right all l r p q first at second next is =
    let long : length left ≡ length old + size l = side_long old left l first in
    let last : q ≡ length old + size l + size r - 1 = omega (arith, long, next) in
    let top = node.And (length old + size l - 1) (length old + size l + size r - 1) in
    is ∙ rw (at, last) (ap (λ xs. xs ++ top ∷ []) (sides_laid old left right l r first second)) ∙ append_assoc old (nodes_of (length old) l ++ nodes_of (length old + size l) r) (top ∷ [])

pub either_laid : (old left right all : List Node) (l r : Tree) (p q : ℕ) → left ≡ old ++ nodes_of (length old) l → p ≡ length old + size l - 1
    → right ≡ left ++ nodes_of (length left) r → q ≡ length left + size r - 1 → all ≡ right ++ node.Or p q ∷ [] → all ≡ old ++ nodes_of (length old) (Either l r)
either_laid old left right all l r p q first at second next is =
    let long : length left ≡ length old + size l = side_long old left l first in
    let last : q ≡ length old + size l + size r - 1 = omega (arith, long, next) in
    let top = node.Or (length old + size l - 1) (length old + size l + size r - 1) in
    is ∙ rw (at, last) (ap (λ xs. xs ++ top ∷ []) (sides_laid old left right l r first second)) ∙ append_assoc old (nodes_of (length old) l ++ nodes_of (length old + size l) r) (top ∷ [])

-- the leaves
leaves-append : (front back : List Node) → leaves_in (front ++ back) ≡ leaves_in front ++ leaves_in back
leaves-append [] back = refl
leaves-append (node.Leaf leaf ∷ front) back = ap (λ xs. leaf ∷ xs) (leaves-append front back)
leaves-append (node.And left right ∷ front) back = leaves-append front back
leaves-append (node.Or left right ∷ front) back = leaves-append front back

pub leaves_kept : (start : ℕ) (tree : Tree) → leaves_in (nodes_of start tree) ≡ leaves_of tree
leaves_kept start (One leaf) = refl
leaves_kept start (Both left right) =
    let back = nodes_of (start + size left) right in
    let last = node.And (start + size left - 1) (start + size left + size right - 1) in
    rw (leaves-append (nodes_of start left ++ back) (last ∷ []), leaves-append (nodes_of start left) back, leaves_kept start left, leaves_kept (start + size left) right, append-nil (leaves_of left ++ leaves_of right)) refl
leaves_kept start (Either left right) =
    let back = nodes_of (start + size left) right in
    let last = node.Or (start + size left - 1) (start + size left + size right - 1) in
    rw (leaves-append (nodes_of start left ++ back) (last ∷ []), leaves-append (nodes_of start left) back, leaves_kept start left, leaves_kept (start + size left) right, append-nil (leaves_of left ++ leaves_of right)) refl

-- which nodes of a tree are true, in their order
abbrev values_of : Tree → List Sight → List Bool
values_of (One leaf) sights = is_some (first leaf sights) ∷ []
values_of (Both left right) sights = values_of left sights ++ values_of right sights ++ holds (Both left right) sights ∷ []
values_of (Either left right) sights = values_of left sights ++ values_of right sights ++ holds (Either left right) sights ∷ []

length_values : (tree : Tree) (sights : List Sight) → length (values_of tree sights) ≡ size tree
length_values (One leaf) sights = refl
length_values (Both left right) sights =
    let back = values_of right sights in let last = holds (Both left right) sights in
    omega (arith, length_push (values_of left sights ++ back) last, length-append (values_of left sights) back, length_values left sights, length_values right sights)
length_values (Either left right) sights =
    let back = values_of right sights in let last = holds (Either left right) sights in
    omega (arith, length_push (values_of left sights ++ back) last, length-append (values_of left sights) back, length_values left sights, length_values right sights)

-- a list ends in its last item
ends_at : (front back : List Bool) (last : Bool) (n : ℕ) → length front + length back ≡ n → get_or (front ++ (back ++ last ∷ [])) n false ≡ last
ends_at front back last n is = ap (λ xs. get_or xs n false) (sym (append_assoc front back (last ∷ []))) ∙ get_or_at (front ++ back) last [] false n (length-append front back ∙ is)

-- the last one is the root
root_at : (before : List Bool) (tree : Tree) (sights : List Sight) (n : ℕ) → length before + size tree ≡ n + 1 → get_or (before ++ values_of tree sights) n false ≡ holds tree sights
root_at before (One leaf) sights n is = get_or_at before (is_some (first leaf sights)) [] false n (omega arith)
root_at before (Both left right) sights n is =
    ends_at before (values_of left sights ++ values_of right sights) (holds (Both left right) sights) n
    (omega (arith, length-append (values_of left sights) (values_of right sights), length_values left sights, length_values right sights))
root_at before (Either left right) sights n is =
    ends_at before (values_of left sights ++ values_of right sights) (holds (Either left right) sights) n
    (omega (arith, length-append (values_of left sights) (values_of right sights), length_values left sights, length_values right sights))

-- nodes are valued one after another
truths-append : (before : List Bool) (sights : List Sight) (front back : List Node) → truths before sights (front ++ back) ≡ truths (truths before sights front) sights back
truths-append before sights [] back = refl
truths-append before sights (next ∷ front) back = truths-append (before ++ node_holds before sights next ∷ []) sights front back

-- the places of both roots, among the values of both sides
left_at : (before : List Bool) (l r : Tree) (sights : List Sight) → get_or ((before ++ values_of l sights) ++ values_of r sights) (length before + size l - 1) false ≡ holds l sights
left_at before l r sights =
    let long : length before + size l - 1 < length (before ++ values_of l sights) = omega (arith, length-append before (values_of l sights), length_values l sights, some_nodes l) in
    get_or_append_left (before ++ values_of l sights) (values_of r sights) false (length before + size l - 1) long
    ∙ root_at before l sights (length before + size l - 1) (omega (arith, some_nodes l))

right_at : (before : List Bool) (l r : Tree) (sights : List Sight) → get_or ((before ++ values_of l sights) ++ values_of r sights) (length before + size l + size r - 1) false ≡ holds r sights
right_at before l r sights =
    root_at (before ++ values_of l sights) r sights (length before + size l + size r - 1) (omega (arith, length-append before (values_of l sights), length_values l sights, some_nodes r))

-- the nodes of a tree have its values
pub truths_kept : (before : List Bool) (sights : List Sight) (tree : Tree) → truths before sights (nodes_of (length before) tree) ≡ before ++ values_of tree sights
truths_kept before sights (One leaf) = refl
truths_kept before sights (Both l r) =
    let start = length before in
    let front = nodes_of start l in
    let back = nodes_of (start + size l) r in
    let last = node.And (start + size l - 1) (start + size l + size r - 1) in
    let first = before ++ values_of l sights in
    let both = first ++ values_of r sights in
    let long : length first ≡ start + size l = length-append before (values_of l sights) ∙ ap (λ n. start + n) (length_values l sights) in
    let again : truths first sights back ≡ both = ap (λ n. truths first sights (nodes_of n r)) (sym long) ∙ truths_kept first sights r in
    truths-append before sights (front ++ back) (last ∷ [])
    ∙ ap (λ xs. truths xs sights (last ∷ [])) (truths-append before sights front back ∙ ap (λ xs. truths xs sights back) (truths_kept before sights l) ∙ again)
    ∙ ap (λ b. both ++ b ∷ []) (rw (left_at before l r sights, right_at before l r sights) refl)
    ∙ ap (λ xs. xs ++ holds (Both l r) sights ∷ []) (append_assoc before (values_of l sights) (values_of r sights))
    ∙ append_assoc before (values_of l sights ++ values_of r sights) (holds (Both l r) sights ∷ [])
truths_kept before sights (Either l r) =
    let start = length before in
    let front = nodes_of start l in
    let back = nodes_of (start + size l) r in
    let last = node.Or (start + size l - 1) (start + size l + size r - 1) in
    let first = before ++ values_of l sights in
    let both = first ++ values_of r sights in
    let long : length first ≡ start + size l = length-append before (values_of l sights) ∙ ap (λ n. start + n) (length_values l sights) in
    let again : truths first sights back ≡ both = ap (λ n. truths first sights (nodes_of n r)) (sym long) ∙ truths_kept first sights r in
    truths-append before sights (front ++ back) (last ∷ [])
    ∙ ap (λ xs. truths xs sights (last ∷ [])) (truths-append before sights front back ∙ ap (λ xs. truths xs sights back) (truths_kept before sights l) ∙ again)
    ∙ ap (λ b. both ++ b ∷ []) (rw (left_at before l r sights, right_at before l r sights) refl)
    ∙ ap (λ xs. xs ++ holds (Either l r) sights ∷ []) (append_assoc before (values_of l sights) (values_of r sights))
    ∙ append_assoc before (values_of l sights ++ values_of r sights) (holds (Either l r) sights ∷ [])

-- the nodes hold if the tree does
pub root_kept : (tree : Tree) (sights : List Sight) → nodes_hold (nodes_of 0 tree) sights ≡ holds tree sights
root_kept tree sights =
    ap (λ xs. get_or xs (length (nodes_of 0 tree) - 1) false) (truths_kept [] sights tree)
    ∙ root_at [] tree sights (length (nodes_of 0 tree) - 1) (omega (arith, length_nodes 0 tree, some_nodes tree))

pub flat_kept : (nodes : List Node) (tree : Tree) → nodes ≡ nodes_of 0 tree → length nodes ≤ 4095 → IsFlat nodes tree
flat_kept nodes tree is few = record {
  laid = is;
  few = few;
  means = λ sights. ap (λ ns. nodes_hold ns sights) is ∙ root_kept tree sights;
  leaves = ap leaves_in is ∙ leaves_kept 0 tree;
}
