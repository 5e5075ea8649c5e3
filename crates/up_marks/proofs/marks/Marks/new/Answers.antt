use Rattle.std.proofs.Common.{◌∙◌, ap, None, replicate}
use Rattle.up_marks.specs.Marking.{unset}
use Rattle.up_marks.proofs.Firsts.{firsts_none}
use Rattle.up_marks.proofs.Markings.{blanks_of, flat_size}
use Rattle.up_marks.proofs.marks.Marks.new.Goals as goal

pub returns : goal.returns
returns c = λ event_of. record {
  kept = λ n. None;
  laid = c.in_ok-marks.ensures ∙ ap (λ n. replicate n unset) (c.len.ensures ∙ flat_size c.nodes-2.result.now c.args.condition.now c.nodes-2.ensures) ∙ blanks_of 0 c.args.condition.now;
  firsts = firsts_none event_of 0 c.args.condition.now;
}
