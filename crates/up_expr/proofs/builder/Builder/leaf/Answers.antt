use Rattle.std.proofs.Common.{◌≡◌, ◌<◌, ◌∙◌, ◌∷◌, [], ap, sym, subst, length, rules}
use Rattle.up_expr.specs.declared.flat.TheConstants.{MAX_NODES}
use Rattle.up_expr.specs.Laying.{sizes}
use Rattle.up_expr.specs.Trees.{One}
use Rattle.up_expr.specs.TreeCode.{trees_after}
use Rattle.up_expr.proofs.Building.{leaf_added, leaf_more}
use Rattle.up_expr.proofs.builder.Builder.leaf.Goals as goal

pub invariant_of-self-in-Ok : goal.invariant_of-self-in-Ok
invariant_of-self-in-Ok c =
    let less : sizes (trees_after c.self.inside.nodes.items []) < MAX_NODES = subst (λ ts. sizes ts < MAX_NODES) (sym c.self.view_is) c.requires in
    let long : c.len-start.result ≡ length c.self.inside.nodes.items = search rules in
    rw (c.in-Ok.ensures.pushed, c.in_ok-push_start.ensures.pushed, long) (leaf_added c.self.inside.nodes.items c.self.inside.starts.items c.args.leaf c.self.invariant less)

pub returns-in-Ok-clause-added : goal.returns-in-Ok-clause-added
returns-in-Ok-clause-added c =
    ap (λ ns. trees_after ns []) c.in-Ok.ensures.pushed ∙ leaf_more c.self.inside.nodes.items c.args.leaf ∙ ap (λ ts. One c.args.leaf ∷ ts) c.self.view_is
