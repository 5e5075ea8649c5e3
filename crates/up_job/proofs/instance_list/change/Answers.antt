use Rattle.std.proofs.Common.{◌≡◌, rules, arith, length, ap}
use Rattle.up_job.specs.Changes.{changed}
use Rattle.up_job.specs.InstanceLists.{name_of}
use Rattle.up_job.specs.Named as by_name
use Rattle.up_job.proofs.NamedLemmas.{within_here, changed_here}
use Rattle.up_job.proofs.instance_list.change.Goals as goal

pub index_mut-requires : goal.index_mut-requires
index_mut-requires c =
    let at : c.position-place.result ≡ by_name.position name_of c.args.name.now c.args.instances.now.items = search rules in
    let within = within_here name_of c.args.name.now c.args.instances.now.items c.position-place.result at c.requires.order c.requires.there in
    omega (arith, within, c.as_slice.ensures.len, ap length c.as_slice.ensures.value)

pub returns : goal.returns
returns c =
    let at : c.position-place.result ≡ by_name.position name_of c.args.name.now c.args.instances.now.items = search rules in
    rw c.apply.ensures (changed_here name_of c.args.name.now (changed c.args.its) c.args.instances.now.items c.position-place.result c.index_mut.result.now at c.requires.order c.requires.there c.index_mut.ensures.value)
