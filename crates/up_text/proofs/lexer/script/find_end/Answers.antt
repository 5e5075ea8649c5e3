use Rattle.std.proofs.Common.{◌≡◌, true, false, arith, ◌∙◌, sym, rules}
use Rattle.up_text.proofs.Scripting.{Passed-more, Passed-end, Passed-fits, Passed-boundary, BeginsLine-shorter}
use Rattle.up_text.specs.Scripts.{is_end_line}
use Rattle.up_text.proofs.lexer.script.find_end.Goals as goal

pub overflow_add-result : goal.overflow_add-result
overflow_add-result c = omega (arith, Passed-fits _ _ _ _ c.lines.invariant.passed, BeginsLine-shorter _ _ _ _ c.split_line-feeds.ensures, c.requires)

pub overflow_add-line : goal.overflow_add-line
overflow_add-line c = omega (arith, Passed-fits _ _ _ _ c.lines.invariant.passed, BeginsLine-shorter _ _ _ _ c.split_line-feeds.ensures, c.requires)

pub split_at-requires : goal.split_at-requires
split_at-requires c = Passed-boundary _ _ _ _ c.lines.invariant.passed c.lines.invariant.is_text

pub returns-then-is_end_line : goal.returns-then-is_end_line
returns-then-is_end_line c =
    let is : is_end_line c.split_line-feeds.result.0.now ≡ true = sym c.is_end_line.ensures ∙ c.if-is_end_line.true in
    rw c.split_at.ensures.front (Passed-end _ _ _ _ _ _ _ c.lines.invariant.passed c.split_line-feeds.ensures is)

pub lines-preserved : goal.lines-preserved
lines-preserved c =
    let is : is_end_line c.split_line-feeds.result.0.now ≡ false = sym c.is_end_line.ensures ∙ c.if-is_end_line.false in
    record {
      passed = Passed-more _ _ _ _ _ _ _ c.lines.invariant.passed c.split_line-feeds.ensures is;
      is_text = search rules;
    }
