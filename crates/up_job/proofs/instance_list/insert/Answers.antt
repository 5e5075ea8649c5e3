use Rattle.std.proofs.Common.{◌≡◌, rules, arith, ◌≤◌, length, insert, sym, subst, ap, ◌∙◌}
use Rattle.up_job.specs.InstanceLists.{name_of}
use Rattle.up_job.specs.Named as by_name
use Rattle.up_job.proofs.NamedLemmas.{position_within, put_at}
use Rattle.up_job.proofs.instance_list.insert.Goals as goal

pub insert-requires : goal.insert-requires
insert-requires c =
    let at : c.position-at.result ≡ by_name.position name_of c.args.instance.name c.args.instances.now.items = search rules in
    let short : c.position-at.result ≤ length c.args.instances.now.items = subst (λ n. n ≤ length c.args.instances.now.items) (sym at) (position_within name_of c.args.instance.name c.args.instances.now.items) in
    omega (arith, short, c.as_slice.ensures.len, ap length c.as_slice.ensures.value, ap length c.make_room.ensures)

pub returns-clause-added : goal.returns-clause-added
returns-clause-added c =
    let at : c.position-at.result ≡ by_name.position name_of c.args.instance.name c.args.instances.now.items = search rules in
    c.in_ok-insert.ensures.items ∙ ap (λ xs. insert xs c.position-at.result c.args.instance) c.make_room.ensures ∙ ap (λ n. insert c.args.instances.now.items n c.args.instance) at ∙ put_at name_of c.args.instance c.args.instances.now.items
