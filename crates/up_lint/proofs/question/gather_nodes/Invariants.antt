use Rattle.std.proofs.Common.{◌≡◌, drop, []}
use Rattle.up_expr.specs.Flat.{leaves_in}
use Rattle.up_lint.specs.Events.{scene_of}
use Rattle.up_lint.specs.Questions.{about, gathered}
use Rattle.up_lint.proofs.question.gather_nodes.Given as goal

abbrev pub invariant-loop-node : goal.invariant-loop-node
invariant-loop-node l = gathered (about (scene_of l.world) l.job l.question l.side) l.names.items (leaves_in (drop l.node-index l.nodes)) ≡ gathered (about (scene_of l.world) l.job l.question l.side) [] (leaves_in l.nodes)
