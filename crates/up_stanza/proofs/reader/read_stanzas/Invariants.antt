use Rattle.std.proofs.Common.{◌≡◌, length}
use Rattle.up_stanza.specs.Reading.{stanzas_before}
use Rattle.up_stanza.specs.Stanzas.{stanzas_of}
use Rattle.up_stanza.proofs.reader.read_stanzas.Given as goal

-- the stanzas so far stand before those that are left
abbrev pub invariant-stanzas : goal.invariant-stanzas
invariant-stanzas l = stanzas_before l.stanzas.items (stanzas_of l.lexer) ≡ stanzas_of l.initial.lexer

abbrev pub decreases-stanzas : goal.decreases-stanzas
decreases-stanzas l = length l.lexer.rest
