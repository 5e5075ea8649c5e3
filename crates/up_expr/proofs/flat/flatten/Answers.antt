use Rattle.std.proofs.Common.{◌≡◌, ◌++◌, ◌∙◌, ap, length, length-append, arith}
use Rattle.up_expr.specs.Flat.{nodes_of}
use Rattle.up_expr.specs.Trees.{tree_of}
use Rattle.up_expr.proofs.Flattening.{flat_kept, length_nodes}
use Rattle.up_expr.proofs.flat.flatten.Goals as goal

pub returns : goal.returns
returns c =
    let tree = tree_of c.args.expr.now in
    let items = c.append_nodes.new.nodes.items in
    let laid : items ≡ nodes_of 0 tree = c.in_ok-append_nodes.ensures.appended ∙ ap (λ xs. xs ++ nodes_of (length xs) tree) c.new-nodes.ensures.items in
    rw (c.new-2.ensures, c.new.ensures) (flat_kept items tree laid (omega (arith, ap length laid, length_nodes 0 tree)))
