-- An expression as a tree, without where its parts lie in memory.
use Rattle.up_expr.specs.declared.expr.Expr.{Expr}
use Rattle.up_expr.specs.declared.expr.Expr.TheVariants as expr
use Rattle.up_expr.specs.declared.expr.Leaf.{Leaf}

-- a leaf, both of two, or either of two
pub data Tree : Type 0 where
  One : (leaf : Leaf) → Tree
  Both : (left right : Tree) → Tree
  Either : (left right : Tree) → Tree

-- the tree of an expression
abbrev pub tree_of : Expr → Tree
tree_of (expr.Leaf leaf) = One leaf
tree_of (expr.And' p left q right) = Both (tree_of left) (tree_of right)
tree_of (expr.Or' p left q right) = Either (tree_of left) (tree_of right)
