use Rattle.std.proofs.Common.{length}
use denote.Text.{Utf8}
use denote.Shadow.{shadow}
use Rattle.up_text.proofs.Scripting.{Passed}
use Rattle.up_text.proofs.lexer.script.find_end.Given as goal

abbrev pub invariant-lines : goal.invariant-lines
invariant-lines l = record {
  passed : Passed l.text l.initial.line l.rest l.line;
  is_text : shadow (Utf8 l.rest);
}

abbrev pub decreases-lines : goal.decreases-lines
decreases-lines l = length l.rest
