use Rattle.std.proofs.Common.{Bool, false, length}
use denote.Shadow.{shadow}
use denote.Text.{Utf8}
use Rattle.up_text.specs.Lexer.{Run}
use Rattle.up_text.specs.Tokens.{Quoted}
use Rattle.up_text.proofs.lexer.quoted.push_quoted.Given as goal

abbrev pub invariant-parts : goal.invariant-parts
invariant-parts l = record {
  run : (parens : Bool) → Run parens l.keep (Quoted l.quote false) l.text l.initial.line (Quoted l.quote l.joined) l.rest l.line l.initial.out l.out;
  is_text : shadow (Utf8 l.rest);
}

abbrev pub decreases-parts : goal.decreases-parts
decreases-parts l = length l.rest
