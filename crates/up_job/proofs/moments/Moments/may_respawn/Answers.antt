use Rattle.std.proofs.Common.{sym}
use Rattle.up_job.proofs.MomentLemmas.{limited-model}
use Rattle.up_job.proofs.moments.Moments.may_respawn.Goals as goal

pub returns-else-is_unlimited-clause-model : goal.returns-else-is_unlimited-clause-model
returns-else-is_unlimited-clause-model c instance c' today kept falls =
    rw (c.recent.ensures, c.milliseconds.ensures)
    (limited-model c.args.limit instance c' c.args.now c.args.self.now.items (sym c.if-is_unlimited.ensures) today kept falls)
