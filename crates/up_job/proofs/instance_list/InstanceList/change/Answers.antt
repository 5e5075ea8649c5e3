use Rattle.std.proofs.Common.{sym, ap, subst, ◌∙◌}
use Rattle.up_job.specs.InstanceLists.{IsInstanceList}
use Rattle.up_job.specs.Waiting.{any_waits}
use Rattle.up_job.proofs.InstanceLemmas.{list_with_change}
use Rattle.up_job.proofs.WaitLemmas.{calm-change}
use Rattle.up_job.proofs.instance_list.InstanceList.change.Goals as goal

pub invariant_of-self : goal.invariant_of-self
invariant_of-self c =
    let xs = c.self.inside.instances.items in (
      subst IsInstanceList (sym c.change.ensures) (list_with_change c.args.name.now c.args.its xs c.self.invariant.0),
      λ calm. ap any_waits c.change.ensures ∙ calm-change c.self.inside.may_wait c.args.its c.args.name.now xs c.self.invariant.1 (sym c.may_wait-self-inside.ensures ∙ calm),
    )
