-- What stands at the root of a part of an expression.
use Rattle.up_expr.specs.declared.branch.Root.{Root}
use Rattle.up_expr.specs.declared.branch.Root.TheVariants.{Leaf, And, Or}
use Rattle.up_expr.specs.Trees.{Tree, One, Both, Either}

-- the part with this root
abbrev pub tree_at : Root → Tree
tree_at (Leaf leaf) = One leaf.now
tree_at (And left right) = Both left right
tree_at (Or left right) = Either left right
