use Rattle.std.proofs.Common.{◌≡◌, ◌<◌, ◌∙◌, None, length, map, refl, sym, ap, subst, arith, rules}
use Rattle.up_job.specs.InstanceLists.{name_of, named, new_instance, max_instances, with_instance, IsInstanceList}
use Rattle.up_job.specs.Lists.{position_in}
use Rattle.up_job.specs.Named as by_name
use Rattle.up_job.specs.Waiting.{any_waits}
use Rattle.up_job.proofs.InstanceLemmas.{list_with}
use Rattle.up_job.proofs.WaitLemmas.{calm-with}
use Rattle.up_job.proofs.Places.{position-map}
use Rattle.up_job.proofs.instance_list.InstanceList.add.Goals as goal

pub invariant_of-self-2 : goal.invariant_of-self-2
invariant_of-self-2 c =
    let xs = c.self.inside.instances.items in
    let absent : named c.args.name.now xs ≡ None = search rules in
    let less : length xs < max_instances = search (rules, arith) in
    let new = new_instance c.args.name.now c.args.file c.args.stop_on in (
      subst IsInstanceList (search rules) (list_with new xs c.self.invariant.0 absent less),
      λ calm. ap any_waits (c.in_ok-at.ensures.added ∙ ap (λ i. with_instance i xs) c.in_ok-instance.ensures) ∙ calm-with new xs refl (c.self.invariant.1 calm),
    )

pub returns-clause-position : goal.returns-clause-position
returns-clause-position c =
    let xs = c.self.inside.instances.items in
    let at : c.in_ok-at.at ≡ by_name.position name_of c.args.name.now xs = search rules in
    at ∙ sym (position-map name_of c.args.name.now xs) ∙ ap (λ ys. position_in c.args.name.now (map name_of ys)) c.self.view_is
