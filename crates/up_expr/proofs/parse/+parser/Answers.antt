use Rattle.std.proofs.Common.{◌∙◌, ap, refl, Some, None, length, arith}
use Rattle.up_expr.specs.Parsing.{at, After, outcome}
use Rattle.up_expr.specs.Syntax.{join_trees}
use Rattle.up_expr.proofs.Going.{operator_read, merged}
use Rattle.up_expr.proofs.parse.+parser.Goals as goal

pub parse_items-operators-preserved : goal.parse_items-operators-preserved
parse_items-operators-preserved t c =
    let operator = c.in-Some.operator.now in
    let after = c.in-Some.after.now in
    let others = c.in-Ok-parse_item.others.now in
    let left = c.operators.invariant.same in
    let right = c.in-Ok-parse_item.ensures.read in
    record {
      same = (
        join_trees operator left.0 right.0,
        c.join-tree.ensures left.0 right.0 left.1 right.1,
        λ outer deep.
            left.2 outer deep
            ∙ ap (λ ts. outcome ts (at outer None (After left.0))) c.in-Some.ensures.0
            ∙ operator_read operator after outer None left.0 left.0 c.in-Some.ensures.1 refl
            ∙ right.2 outer (Some (left.0, operator)) deep
            ∙ merged others outer (Some (left.0, operator)) right.0 (join_trees operator left.0 right.0) refl,
      );
      within = omega (arith, c.operators.invariant.within, c.in-Ok-parse_item.ensures.shorter, ap length c.in-Some.ensures.0);
    }
