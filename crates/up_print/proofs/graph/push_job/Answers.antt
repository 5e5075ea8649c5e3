use Rattle.up_print.specs.Graph.{job_lines}
use Rattle.up_print.proofs.Joining.{all_three}
use Rattle.up_print.proofs.graph.push_job.Goals as goal

pub returns : goal.returns
unfolding job_lines
returns c = let name = c.as_str-name.ensures in all_three c.push_condition-2.result _ _ _ _ _ _ _ (rw name.text at c.in_ok-push_box.ensures) (rw name.text at c.in_ok-push_condition.ensures) (rw name.text at c.push_condition-2.ensures)
