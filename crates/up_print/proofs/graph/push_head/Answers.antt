use Rattle.up_print.specs.Graph.{group_lines}
use Rattle.up_print.proofs.Joining.{both}
use Rattle.up_print.proofs.graph.push_head.Goals as goal

pub returns : goal.returns
unfolding group_lines
returns c = both c.push_edge.result _ _ _ _ _ c.in_ok-push_node.ensures c.push_edge.ensures
