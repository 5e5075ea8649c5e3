use Rattle.std.proofs.Common.{◌≡◌, ◌<◌, ◌≤◌, ◌∙◌, ◌++◌, ◌∷◌, ◌-◌, [], Some, ap, sym, subst, length, get_or, arith, rules}
use Rattle.up_expr.specs.declared.flat.TheConstants.{MAX_NODES}
use Rattle.up_expr.specs.Laying.{join_node, sizes}
use Rattle.up_expr.specs.TreeCode.{joined, trees_after}
use Rattle.up_expr.proofs.Building.{join_added, long_is}
use Rattle.up_expr.proofs.builder.Builder.join.Goals as goal

pub joining-node-requires-clause-few : goal.joining-node-requires-clause-few
joining-node-requires-clause-few c =
    let less : sizes (trees_after c.self.inside.nodes.items []) < MAX_NODES = subst (λ ts. sizes ts < MAX_NODES) (sym c.self.view_is) c.requires in
    let long : c.len-2.result ≡ length c.self.inside.nodes.items = search rules in
    omega (arith, long, less, long_is c.self.inside.nodes.items c.self.inside.starts.items c.self.invariant)

pub invariant_of-self-2 : goal.invariant_of-self-2
invariant_of-self-2 c =
    let nodes = c.self.inside.nodes.items in
    let starts = c.self.inside.starts.items in
    let less : sizes (trees_after nodes []) < MAX_NODES = subst (λ ts. sizes ts < MAX_NODES) (sym c.self.view_is) c.requires in
    let long : c.len-2.result ≡ length nodes = search rules in
    let many : c.len.result ≡ length starts = search rules in
    let two : 2 ≤ length starts = omega (arith, many, c.if-len-lt2.false) in
    let node : c.joining-node.result ≡ join_node c.args.both (get_or starts (length starts - 1) 0 - 1) (length nodes - 1) =
    c.joining-node.ensures ∙ ap (λ xs. join_node c.args.both (get_or xs (length xs - 1) 0 - 1) (c.len-2.result - 1)) c.as_slice.ensures.value
    ∙ ap (λ n. join_node c.args.both (get_or starts (length starts - 1) 0 - 1) (n - 1)) long in
    rw (c.in_ok-push_node.ensures.pushed, c.pop_start.ensures, node) (join_added c.args.both nodes starts c.self.invariant two less).are

pub returns-clause-joined : goal.returns-clause-joined
returns-clause-joined c =
    let nodes = c.self.inside.nodes.items in
    let starts = c.self.inside.starts.items in
    let less : sizes (trees_after nodes []) < MAX_NODES = subst (λ ts. sizes ts < MAX_NODES) (sym c.self.view_is) c.requires in
    let long : c.len-2.result ≡ length nodes = search rules in
    let many : c.len.result ≡ length starts = search rules in
    let two : 2 ≤ length starts = omega (arith, many, c.if-len-lt2.false) in
    let node : c.joining-node.result ≡ join_node c.args.both (get_or starts (length starts - 1) 0 - 1) (length nodes - 1) =
    c.joining-node.ensures ∙ ap (λ xs. join_node c.args.both (get_or xs (length xs - 1) 0 - 1) (c.len-2.result - 1)) c.as_slice.ensures.value
    ∙ ap (λ n. join_node c.args.both (get_or starts (length starts - 1) 0 - 1) (n - 1)) long in
    ap (λ ts. joined c.args.both ts) (sym c.self.view_is) ∙ (join_added c.args.both nodes starts c.self.invariant two less).joins
    ∙ ap (λ ns. Some (trees_after ns [])) (sym (c.in_ok-push_node.ensures.pushed ∙ ap (λ n. nodes ++ n ∷ []) node))
