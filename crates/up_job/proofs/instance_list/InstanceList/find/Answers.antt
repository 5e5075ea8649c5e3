use Rattle.std.proofs.Common.{◌≡◌, IsSome, sym, ap, ◌∙◌, Some, rules}
use Rattle.up_job.specs.InstanceLists.{name_of, named}
use Rattle.up_job.specs.Named as by_name
use Rattle.up_job.proofs.NamedLemmas.{named_here}
use Rattle.up_job.proofs.instance_list.InstanceList.find.Goals as goal

pub returns-in-Ok : goal.returns-in-Ok
returns-in-Ok c =
    let xs = c.self.inside.instances.items in
    let at : c.in-Ok.at ≡ by_name.position name_of c.args.name.now xs = search rules in
    let there : IsSome (named c.args.name.now xs) = search rules in
    let same : named c.args.name.now xs ≡ named c.args.name.now c.args.self.now = search rules in
    ap (λ x. Some x) c.index.ensures ∙ sym (named_here name_of c.args.name.now xs c.in-Ok.at c.index.result.now at c.self.invariant.0.0 there) ∙ same
