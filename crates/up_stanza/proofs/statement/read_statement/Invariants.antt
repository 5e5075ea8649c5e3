use Rattle.std.proofs.Common.{◌≡◌}
use Rattle.up_text.specs.Lexemes.{readings_left}
use Rattle.up_text.specs.Statements.{statement_of}
use Rattle.up_stanza.specs.Reading.{put_before}
use Rattle.up_stanza.proofs.statement.read_statement.Given as goal

-- the tokens so far stand before those that are left
abbrev pub invariant-tokens : goal.invariant-tokens
invariant-tokens l = put_before l.tokens.items (statement_of l.lexer) ≡ statement_of l.initial.lexer

abbrev pub decreases-tokens : goal.decreases-tokens
decreases-tokens l = readings_left l.lexer
