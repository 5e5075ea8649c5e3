use Rattle.std.proofs.Common.{◌≡◌}
use Rattle.up_text.specs.Lexemes.{readings_left}
use Rattle.up_stanza.specs.Stanzas.{texts_at}
use Rattle.up_stanza.specs.Reading.{put_before}
use Rattle.up_lint.proofs.next.read_texts.Given as goal

-- the texts so far stand before those that are left
abbrev pub invariant-texts : goal.invariant-texts
invariant-texts l = put_before l.texts.items (texts_at l.lexer) ≡ texts_at l.initial.lexer

abbrev pub decreases-texts : goal.decreases-texts
decreases-texts l = readings_left l.lexer
