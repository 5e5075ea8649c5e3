use Rattle.std.proofs.Common.{◌∙◌, refl, sym, ap, subst, length, ◌<◌, option_map}
use Rattle.up_job.specs.InstanceLists.{IsInstanceList}
use Rattle.up_job.specs.Lending.{stop_on_of, with_stop_on}
use Rattle.up_job.specs.Lists.{nth, with_at}
use Rattle.up_job.specs.Waiting.{any_waits}
use Rattle.up_job.proofs.InstanceLemmas.{list_with_at}
use Rattle.up_job.proofs.Places.{nth_get, set_with_at}
use Rattle.up_job.proofs.WaitLemmas.{calm-with_at}
use Rattle.up_job.proofs.instance_list.InstanceList.stop_on_mut.Goals as goal

pub invariant_of-self-lent : goal.invariant_of-self-lent
invariant_of-self-lent c w =
    let within : c.args.at < length c.self.inside.instances.items = rw c.self.view_is c.requires in
    let xs = c.self.inside.instances.items in
    let is = set_with_at (with_stop_on w) c.args.at xs c.index_mut-instance.result.now within c.index_mut-instance.ensures.value in (
      subst IsInstanceList (sym is) (list_with_at c.args.at (with_stop_on w) (λ x. refl) xs c.self.invariant.0),
      λ calm. ap any_waits is ∙ calm-with_at c.args.at (with_stop_on w) (λ x none. none) xs (c.self.invariant.1 calm),
    )

pub returns : goal.returns
returns c =
    let within : c.args.at < length c.self.inside.instances.items = rw c.self.view_is c.requires in (
      (
        refl,
        λ w. set_with_at (with_stop_on w) c.args.at c.self.inside.instances.items c.index_mut-instance.result.now within c.index_mut-instance.ensures.value
            ∙ ap (λ xs. with_at c.args.at (with_stop_on w) xs) c.self.view_is,
      ),
      record {
        writes_back = tt;
        value = ap (λ o. option_map stop_on_of o) (sym (nth_get c.args.at c.self.inside.instances.items c.index_mut-instance.result.now within c.index_mut-instance.ensures.value))
            ∙ ap (λ xs. option_map stop_on_of (nth c.args.at xs)) c.self.view_is;
      },
    )
