use Rattle.std.proofs.Common.{false, length}
use denote.Shadow.{shadow}
use denote.Text.{Utf8}
use Rattle.up_text.specs.Lexer.{Run}
use Rattle.up_text.specs.Tokens.{Outside}
use Rattle.up_text.proofs.lexer.spelling.push_spelling.Given as goal

abbrev pub invariant-pieces : goal.invariant-pieces
invariant-pieces l = record {
  run : Run l.parens l.keep (Outside false) l.text l.initial.line (Outside false) l.rest l.line l.initial.out l.out;
  is_text : shadow (Utf8 l.rest);
}

abbrev pub decreases-pieces : goal.decreases-pieces
decreases-pieces l = length l.rest
