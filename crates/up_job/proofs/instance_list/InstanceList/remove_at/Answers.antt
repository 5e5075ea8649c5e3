use Rattle.std.proofs.Common.{sym, ap, subst, ◌∙◌}
use Rattle.up_job.specs.InstanceLists.{IsInstanceList}
use Rattle.up_job.specs.Waiting.{any_waits}
use Rattle.up_job.proofs.InstanceLemmas.{list_without_at}
use Rattle.up_job.proofs.WaitLemmas.{calm-without_at}
use Rattle.up_job.proofs.instance_list.InstanceList.remove_at.Goals as goal

pub invariant_of-self : goal.invariant_of-self
invariant_of-self c =
    let xs = c.self.inside.instances.items in (
      subst IsInstanceList (sym c.take_at.ensures.rest) (list_without_at c.args.at xs c.self.invariant.0),
      λ calm. ap any_waits c.take_at.ensures.rest ∙ calm-without_at c.args.at xs (c.self.invariant.1 calm),
    )
