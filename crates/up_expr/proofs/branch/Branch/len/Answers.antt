use Rattle.std.proofs.Common.{◌≡◌, ◌∙◌, ap, arith, length}
use Rattle.up_expr.specs.Flat.{size}
use Rattle.up_expr.specs.TreeCode.{tree_in}
use Rattle.up_expr.proofs.Flattening.{length_nodes, some_nodes}
use Rattle.up_expr.proofs.branch.Branch.len.Goals as goal

pub returns-clause-count : goal.returns-clause-count
returns-clause-count c =
    ap length c.self.invariant.1 ∙ length_nodes c.self.invariant.0 (tree_in c.self.inside.nodes.now) ∙ ap size c.self.view_is

pub returns-clause-some : goal.returns-clause-some
returns-clause-some c =
    let tree = tree_in c.self.inside.nodes.now in
    let count : length c.self.inside.nodes.now ≡ size tree = ap length c.self.invariant.1 ∙ length_nodes c.self.invariant.0 tree in
    omega (arith, some_nodes tree)
