use Rattle.std.proofs.Common.{sym, ap, subst, ◌∙◌}
use Rattle.up_job.specs.Changes.{changed}
use Rattle.up_job.specs.InstanceLists.{IsInstanceList}
use Rattle.up_job.specs.Waiting.{any_waits}
use Rattle.up_job.proofs.InstanceLemmas.{list_with_at, name-changed}
use Rattle.up_job.proofs.WaitLemmas.{calm-change_at}
use Rattle.up_job.proofs.instance_list.InstanceList.change_at.Goals as goal

pub invariant_of-self : goal.invariant_of-self
invariant_of-self c =
    let xs = c.self.inside.instances.items in (
      subst IsInstanceList (sym c.change_at.ensures) (list_with_at c.args.at (changed c.args.its) (name-changed c.args.its) xs c.self.invariant.0),
      λ calm. ap any_waits c.change_at.ensures ∙ calm-change_at c.self.inside.may_wait c.args.its c.args.at xs c.self.invariant.1 (sym c.may_wait-self-inside.ensures ∙ calm),
    )
