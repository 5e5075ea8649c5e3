use Rattle.std.proofs.Common.{◌≡◌, ◌∙◌, sym, ap, IsSome, None, Some, rules}
use Rattle.up_job.specs.InstanceLists.{name_of, named}
use Rattle.up_job.specs.Named as by_name
use Rattle.up_job.proofs.NamedLemmas.{place_found, place_absent}
use Rattle.up_job.proofs.instance_list.InstanceList.position.Goals as goal

pub returns-in-Ok : goal.returns-in-Ok
returns-in-Ok c =
    let xs = c.self.inside.instances.items in
    let at : c.in-Ok.at ≡ by_name.position name_of c.args.name.now xs = search rules in
    let there : IsSome (named c.args.name.now xs) = search rules in
    ap (λ n. Some n) at ∙ sym (place_found name_of c.args.name.now xs c.self.invariant.0.0 there) ∙ ap (λ ys. by_name.place_of name_of c.args.name.now ys) c.self.view_is

pub returns-in-Err : goal.returns-in-Err
returns-in-Err c =
    let xs = c.self.inside.instances.items in
    let absent : named c.args.name.now xs ≡ None = search rules in
    sym (place_absent name_of c.args.name.now xs absent) ∙ ap (λ ys. by_name.place_of name_of c.args.name.now ys) c.self.view_is
