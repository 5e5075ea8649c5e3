use Rattle.std.proofs.Common.{◌≡◌, rules, arith, length, Some, remove, sym, ap, ◌∙◌}
use Rattle.up_job.specs.InstanceLists.{name_of}
use Rattle.up_job.specs.Named as by_name
use Rattle.up_job.proofs.NamedLemmas.{within_here, named_here, without_at}
use Rattle.up_job.proofs.instance_list.take.Goals as goal

pub remove-requires : goal.remove-requires
remove-requires c =
    let at : c.position-at.result ≡ by_name.position name_of c.args.name.now c.args.instances.now.items = search rules in
    let within = within_here name_of c.args.name.now c.args.instances.now.items c.position-at.result at c.requires.order c.requires.there in
    omega (arith, within, c.as_slice.ensures.len, ap length c.as_slice.ensures.value)

pub returns-clause-taken : goal.returns-clause-taken
returns-clause-taken c =
    let at : c.position-at.result ≡ by_name.position name_of c.args.name.now c.args.instances.now.items = search rules in
    named_here name_of c.args.name.now c.args.instances.now.items c.position-at.result c.remove.result at c.requires.order c.requires.there
    ∙ ap (λ x. Some x) (sym c.remove.ensures.value)

pub returns-clause-rest : goal.returns-clause-rest
returns-clause-rest c =
    let at : c.position-at.result ≡ by_name.position name_of c.args.name.now c.args.instances.now.items = search rules in
    c.remove.ensures.items ∙ ap (λ n. remove c.args.instances.now.items n) at ∙ without_at name_of c.args.name.now c.args.instances.now.items c.requires.order c.requires.there
