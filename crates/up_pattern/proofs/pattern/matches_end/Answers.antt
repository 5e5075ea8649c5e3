use Rattle.std.proofs.Common.{◌∙◌, sym, ap}
use Rattle.up_pattern.specs.Matching.{items_match, star_from}
use Rattle.up_pattern.proofs.Matches.{run-run, run-end}
use Rattle.up_pattern.proofs.pattern.matches_end.Goals as goal

pub runs-preserved-then-is_run : goal.runs-preserved-then-is_run
runs-preserved-then-is_run c = record {
  same = run-run _ _ _ (sym c.if-is_run.ensures) ∙ ap (λ items. star_from (items_match items) c.runs.left.now) (sym c.in-Some.ensures.none) ∙ c.runs.invariant.same;
  settled = c.in-Some.ensures.settled;
}

pub returns : goal.returns
returns c = sym (ap (λ items. star_from (items_match items) c.runs.left.now) c.in_default.ensures.none ∙ run-end c.runs.left.now) ∙ c.runs.invariant.same
