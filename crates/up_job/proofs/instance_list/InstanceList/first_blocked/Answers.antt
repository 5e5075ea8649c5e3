use Rattle.std.proofs.Common.{sym, ap, ◌∙◌}
use Rattle.up_job.specs.Unblocking.{blocked_from}
use Rattle.up_job.proofs.WaitLemmas.{calm-blocked}
use Rattle.up_job.proofs.instance_list.InstanceList.first_blocked.Goals as goal

pub returns-then-not-self : goal.returns-then-not-self
returns-then-not-self c =
    sym (ap (blocked_from c.args.id 0) (sym c.self.view_is) ∙ calm-blocked c.args.id 0 c.self.inside.instances.items (c.self.invariant.1 c.if-not-self.true))
