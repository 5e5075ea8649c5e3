use Rattle.std.proofs.Common.{◌≡◌, ◌+◌, ◌≤◌, length}
use Rattle.up_text.specs.Lexemes.{lexemes_of, split_ends, stanzas}
use Rattle.up_script.specs.Statements.{inputs_from, with_inputs}
use Rattle.up_script.proofs.script.text_inputs.Given as goal

-- what is left, after the inputs so far, gives the whole
abbrev pub invariant-steps : goal.invariant-steps
invariant-steps l = record {
  whole : with_inputs l.inputs (inputs_from l.tables.items l.line (split_ends (lexemes_of l.lexer))) ≡ inputs_from l.fn.tables.items l.line (stanzas l.text);
  within : l.lexer.line + length l.lexer.rest ≤ 1 + length l.text;
}

abbrev pub decreases-steps : goal.decreases-steps
decreases-steps l = length (lexemes_of l.lexer)
