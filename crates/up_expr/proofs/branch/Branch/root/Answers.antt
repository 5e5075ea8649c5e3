use Rattle.std.proofs.Common.{◌∙◌, sym, ap, true, false, ◌+◌}
use Rattle.up_expr.specs.Flat.{size}
use Rattle.up_expr.specs.TreeCode.{join}
use Rattle.up_expr.proofs.Laid.{is_laid, tree_is, sides_here, leaf_here}
use Rattle.up_expr.proofs.branch.Branch.root.Goals as goal

pub sides-requires-clause-order : goal.sides-requires-clause-order
sides-requires-clause-order c = (sides_here true c.self.inside.nodes.now c.split_root.result.0.now c.split_root.result.1.now c.in-And.left c.in-And.right c.self.invariant c.split_root.ensures c.in-And.is).order

pub sides-requires-clause-within : goal.sides-requires-clause-within
sides-requires-clause-within c = (sides_here true c.self.inside.nodes.now c.split_root.result.0.now c.split_root.result.1.now c.in-And.left c.in-And.right c.self.invariant c.split_root.ensures c.in-And.is).within

pub new-requires : goal.new-requires
new-requires c =
    let s = sides_here true c.self.inside.nodes.now c.split_root.result.0.now c.split_root.result.1.now c.in-And.left c.in-And.right c.self.invariant c.split_root.ensures c.in-And.is in
    is_laid c.sides.result.0.now s.start s.left (c.sides.ensures.left ∙ s.front)

pub new-requires-in-And : goal.new-requires-in-And
new-requires-in-And c =
    let s = sides_here true c.self.inside.nodes.now c.split_root.result.0.now c.split_root.result.1.now c.in-And.left c.in-And.right c.self.invariant c.split_root.ensures c.in-And.is in
    is_laid c.sides.result.1.now (s.start + size s.left) s.right (c.sides.ensures.right ∙ s.back)

pub returns-in-And : goal.returns-in-And
returns-in-And c =
    let s = sides_here true c.self.inside.nodes.now c.split_root.result.0.now c.split_root.result.1.now c.in-And.left c.in-And.right c.self.invariant c.split_root.ensures c.in-And.is in
    ap (λ t. join true t c.new-in-And.result) (c.new.ensures ∙ tree_is c.sides.result.0.now s.start s.left (c.sides.ensures.left ∙ s.front))
    ∙ ap (λ t. join true s.left t) (c.new-in-And.ensures ∙ tree_is c.sides.result.1.now (s.start + size s.left) s.right (c.sides.ensures.right ∙ s.back))
    ∙ sym s.is ∙ c.self.view_is

pub sides-requires-in-Or-clause-order : goal.sides-requires-in-Or-clause-order
sides-requires-in-Or-clause-order c = (sides_here false c.self.inside.nodes.now c.split_root.result.0.now c.split_root.result.1.now c.in-Or.left c.in-Or.right c.self.invariant c.split_root.ensures c.in-Or.is).order

pub sides-requires-in-Or-clause-within : goal.sides-requires-in-Or-clause-within
sides-requires-in-Or-clause-within c = (sides_here false c.self.inside.nodes.now c.split_root.result.0.now c.split_root.result.1.now c.in-Or.left c.in-Or.right c.self.invariant c.split_root.ensures c.in-Or.is).within

pub new-requires-in-Or : goal.new-requires-in-Or
new-requires-in-Or c =
    let s = sides_here false c.self.inside.nodes.now c.split_root.result.0.now c.split_root.result.1.now c.in-Or.left c.in-Or.right c.self.invariant c.split_root.ensures c.in-Or.is in
    is_laid c.sides-in-Or.result.0.now s.start s.left (c.sides-in-Or.ensures.left ∙ s.front)

pub new-requires-in-Or-2 : goal.new-requires-in-Or-2
new-requires-in-Or-2 c =
    let s = sides_here false c.self.inside.nodes.now c.split_root.result.0.now c.split_root.result.1.now c.in-Or.left c.in-Or.right c.self.invariant c.split_root.ensures c.in-Or.is in
    is_laid c.sides-in-Or.result.1.now (s.start + size s.left) s.right (c.sides-in-Or.ensures.right ∙ s.back)

pub returns-in-Or : goal.returns-in-Or
returns-in-Or c =
    let s = sides_here false c.self.inside.nodes.now c.split_root.result.0.now c.split_root.result.1.now c.in-Or.left c.in-Or.right c.self.invariant c.split_root.ensures c.in-Or.is in
    ap (λ t. join false t c.new-in-Or-2.result) (c.new-in-Or.ensures ∙ tree_is c.sides-in-Or.result.0.now s.start s.left (c.sides-in-Or.ensures.left ∙ s.front))
    ∙ ap (λ t. join false s.left t) (c.new-in-Or-2.ensures ∙ tree_is c.sides-in-Or.result.1.now (s.start + size s.left) s.right (c.sides-in-Or.ensures.right ∙ s.back))
    ∙ sym s.is ∙ c.self.view_is

pub returns-in-Leaf : goal.returns-in-Leaf
returns-in-Leaf c = leaf_here c.self.inside.nodes.now c.split_root.result.0.now c.split_root.result.1.now c.in-Leaf.leaf c.self.invariant c.split_root.ensures c.in-Leaf.is ∙ c.self.view_is
