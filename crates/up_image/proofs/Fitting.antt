-- What the nodes of an expression say of all of it.
use Rattle.std.proofs.Common.{◌≡◌, ℕ, ◌+◌, ◌-◌, Bool, true, ◌&&◌, List, [], ◌∷◌, ◌++◌, Some, refl, ap, ◌∙◌, length, arith, nat_le}
use Rattle.std.proofs.Math.Bool.{and-true}
use Rattle.std.proofs.lemmas.Bool.{le-leb}
use Rattle.std.proofs.lemmas.List.Folds.{list_all-append}
use Rattle.std.specs.List.{list_all}
use Rattle.up_expr.specs.declared.node.Node.{Node}
use Rattle.up_expr.specs.declared.node.Node.TheVariants as node
use Rattle.up_expr.specs.Flat.{IsFlat, nodes_of, size}
use Rattle.up_expr.specs.Trees.{Tree, One, Both, Either}
use Rattle.up_expr.proofs.Flattening.{length_nodes}
use Rattle.up_image.specs.Definable.{are_leaves, is_leaf, is_node}
use Rattle.up_image.specs.Image.{fits_condition, fits_node}
use Rattle.up_image.specs.declared.limits.TheConstants.{MAX_NODES}

pub fits_laid : (nodes : List Node) (tree : Tree) (fit : Bool) → IsFlat nodes tree → fit ≡ list_all fits_node nodes → fit ≡ fits_condition (Some tree)
fits_laid nodes tree fit flat is =
    let short : nat_le (size tree) MAX_NODES ≡ true = le-leb (size tree) MAX_NODES (omega (arith, length_nodes 0 tree, ap length flat.laid, flat.few)) in
    is ∙ ap (λ ns. list_all fits_node ns) flat.laid ∙ rw short refl

sides_given : (left right : List Node) (top : Node) {a b : Bool} → is_node top ≡ true → list_all is_node left ≡ a → list_all is_node right ≡ b
    → list_all is_node ((left ++ right) ++ top ∷ []) ≡ (a && b)
sides_given left right top {a} {b} lone one other =
    list_all-append is_node (left ++ right) (top ∷ [])
    ∙ rw (list_all-append is_node left right, lone, one, other) (and-true (a && b))

-- the leaves are those among the nodes
pub leaves_given : (start : ℕ) (tree : Tree) → list_all is_node (nodes_of start tree) ≡ are_leaves tree
leaves_given start (One leaf) = and-true (is_leaf leaf)
leaves_given start (Both left right) =
    sides_given (nodes_of start left) (nodes_of (start + size left) right) (node.And (start + size left - 1) (start + size left + size right - 1)) refl (leaves_given start left) (leaves_given (start + size left) right)
leaves_given start (Either left right) =
    sides_given (nodes_of start left) (nodes_of (start + size left) right) (node.Or (start + size left - 1) (start + size left + size right - 1)) refl (leaves_given start left) (leaves_given (start + size left) right)

pub given_laid : (nodes : List Node) (tree : Tree) → IsFlat nodes tree → list_all is_node nodes ≡ are_leaves tree
given_laid nodes tree flat = ap (λ ns. list_all is_node ns) flat.laid ∙ leaves_given 0 tree
