use Rattle.std.proofs.Common.{◌∙◌, refl, sym, ap, subst}
use Rattle.up_job.specs.InstanceLists.{IsInstanceList}
use Rattle.up_job.specs.Unblocking.{unblocked}
use Rattle.up_job.specs.Waiting.{any_waits}
use Rattle.up_job.proofs.InstanceLemmas.{list_with_at}
use Rattle.up_job.proofs.instance_list.InstanceList.unblock_at.Goals as goal

pub invariant_of-self : goal.invariant_of-self
invariant_of-self c = (
  subst IsInstanceList (sym c.unblock_at.ensures) (list_with_at c.args.at (unblocked c.args.id) (λ x. refl) c.self.inside.instances.items c.self.invariant.0),
  λ calm. ap any_waits (sym c.as_slice.ensures.value) ∙ sym c.any_waits-self-inside.ensures ∙ calm,
)
