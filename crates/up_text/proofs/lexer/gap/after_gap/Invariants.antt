use Rattle.std.proofs.Common.{◌≡◌, Bool, false, length}
use denote.Shadow.{shadow}
use denote.Text.{Utf8}
use Rattle.up_text.specs.Lexer.{GapRun, passes_feeds}
use Rattle.up_text.proofs.lexer.gap.after_gap.Given as goal

abbrev pub invariant-gap : goal.invariant-gap
invariant-gap l = record {
  run : (parens : Bool) → GapRun l.inside parens l.depth false l.text l.initial.line l.rest l.line;
  passes : l.passes ≡ passes_feeds l.inside l.depth;
  is_text : shadow (Utf8 l.rest);
}

abbrev pub decreases-gap : goal.decreases-gap
decreases-gap l = length l.rest
