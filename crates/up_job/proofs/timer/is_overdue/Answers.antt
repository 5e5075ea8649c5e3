use Rattle.std.proofs.Common.{◌∙◌}
use Rattle.up_job.proofs.TimerLemmas.{overdue_model}
use Rattle.up_job.proofs.timer.is_overdue.Goals as goal

pub returns-clause-model : goal.returns-clause-model
returns-clause-model c i c' today kept =
    c.overdue.ensures ∙ overdue_model i c' c.args.now c.args.instance.now today kept
