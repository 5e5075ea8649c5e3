use Rattle.std.proofs.Common.{◌∙◌, ap, None, replicate, length}
use Rattle.up_marks.specs.Marking.{unset, kept_in}
use Rattle.up_marks.proofs.Firsts.{firsts_none}
use Rattle.up_marks.proofs.Markings.{blanks_of, kept_blank, length-marks}
use Rattle.up_marks.proofs.marks.Marks.forget.Goals as goal

pub returns-clause-none : goal.returns-clause-none
returns-clause-none c = ap kept_in c.reset_all.ensures ∙ kept_blank (length c.self.inside.marks.items)

pub returns-clause-agrees : goal.returns-clause-agrees
returns-clause-agrees c = λ event_of event_of' tree sights agrees. record {
  kept = λ n. None;
  laid = c.reset_all.ensures ∙ ap (λ n. replicate n unset) (ap length (c.self.view_is ∙ agrees.laid) ∙ length-marks 0 tree agrees.kept) ∙ blanks_of 0 tree;
  firsts = firsts_none event_of' 0 tree;
}
