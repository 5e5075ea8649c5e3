use Rattle.std.proofs.Common.{sym, ◌∙◌, arith}
use Rattle.up_marks.proofs.Above.{found_above, none_above, none_more}
use Rattle.up_marks.proofs.joining.search_above.Goals as goal

pub loop-above-init : goal.loop-above-init
loop-above-init c = record {
  later = omega arith;
  none = λ i its after less there. absurd (omega (arith, after, less));
}

pub returns-then-joins : goal.returns-then-joins
returns-then-joins c =
    found_above c.args.nodes.now c.args.place c.loop-above.above c.index-nodes-above.result c.loop-above.invariant.later c.loop-above-test.true c.index-nodes-above.is
    (sym c.joins.ensures ∙ c.if-joins.true)

pub loop-above-preserved : goal.loop-above-preserved
loop-above-preserved c = record {
  later = omega (arith, c.loop-above.invariant.later);
  none = none_more c.args.nodes.now c.args.place c.loop-above.above c.index-nodes-above.result c.loop-above-test.true c.index-nodes-above.is
      (sym c.joins.ensures ∙ c.if-joins.false) c.loop-above.invariant.none;
}

pub returns : goal.returns
returns c = none_above c.args.nodes.now c.args.place c.loop-above.above c.loop-above.invariant.later (omega arith) c.loop-above.invariant.none
