use Rattle.std.proofs.Common.{true, false, ◌∙◌, sym, arith, rules}
use Rattle.up_text.proofs.Gaps.{GapRun-then, GapRun-none, GapRun-fits, GapRun-shrinks, after-gap}
use Rattle.up_text.proofs.lexer.gap.after_gap.Goals as goal

pub gap-init : goal.gap-init
gap-init c = record {
  run = λ parens. GapRun-none c.args.inside parens c.args.depth false c.args.text.now c.args.line;
  passes = search rules;
  is_text = search rules;
}

pub pass_part-reached-requires-clause-in_range : goal.pass_part-reached-requires-clause-in_range
pass_part-reached-requires-clause-in_range c = omega (arith, GapRun-fits (c.gap.invariant.run true), c.requires)

pub gap-preserved : goal.gap-preserved
gap-preserved c = record {
  run = λ parens. let run = c.gap.invariant.run parens in GapRun-then run (c.pass_part-reached.ensures.run c.args.inside parens run.after c.args.depth c.gap.invariant.passes);
  passes = c.gap.invariant.passes;
  is_text = search rules;
}

pub returns-clause-passed : goal.returns-clause-passed
returns-clause-passed c = λ parens. after-gap c.args.inside parens c.args.depth c.args.text.now c.args.line _ _ (c.gap.invariant.run parens) (rw (← c.gap.invariant.passes) (sym c.begins_gap.ensures ∙ c.gap-test.false))

pub returns-clause-run : goal.returns-clause-run
returns-clause-run c = λ parens. c.gap.invariant.run parens

pub returns-clause-in_range : goal.returns-clause-in_range
returns-clause-in_range c = GapRun-fits (c.gap.invariant.run true)

pub returns-clause-shorter : goal.returns-clause-shorter
returns-clause-shorter c = GapRun-shrinks (c.gap.invariant.run true)
