use Rattle.std.proofs.Common.{◌≡◌, false, length}
use denote.Shadow.{shadow}
use denote.Text.{Utf8}
use Rattle.up_text.specs.CommandParts.{Told}
use Rattle.up_text.specs.Lexer.{begins_gap}
use Rattle.up_text.proofs.lexer.command.push_command.Given as goal

abbrev pub invariant-words : goal.invariant-words
invariant-words l = record {
  told : Told l.text l.initial.line l.rest l.line l.initial.out l.out;
  begins : begins_gap false l.rest ≡ false;
  is_text : shadow (Utf8 l.rest);
}

abbrev pub decreases-words : goal.decreases-words
decreases-words l = length l.rest
