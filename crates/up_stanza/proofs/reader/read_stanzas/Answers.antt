use Rattle.std.proofs.Common.{◌∙◌, sym}
use Rattle.up_stanza.proofs.Saying.{after_more, after_unreadable, after_finished}
use Rattle.up_stanza.proofs.Shrinking.{stanza_less}
use Rattle.up_stanza.proofs.reader.read_stanzas.Goals as goal

pub stanzas-smaller : goal.stanzas-smaller
stanzas-smaller c = stanza_less c.stanzas.lexer c.in-Ok.stanza c.read_stanza.new.lexer (rw c.in-Ok.is at c.in_ok-stanza.ensures)

pub stanzas-preserved : goal.stanzas-preserved
stanzas-preserved c =
    rw c.in_ok-push-in-Ok.ensures.items
    (after_more c.stanzas.stanzas.items c.stanzas.lexer c.read_stanza.new.lexer c.in-Ok.stanza (sym c.stanzas-test.ensures) (rw c.in-Ok.is at c.in_ok-stanza.ensures) ∙ c.stanzas.invariant)

pub returns-in-Err : goal.returns-in-Err
returns-in-Err c =
    rw (c.new.ensures, c.line-line.ensures)
    (after_unreadable c.stanzas.stanzas.items c.stanzas.lexer (sym c.stanzas-test.ensures) (rw c.in-Err.is at c.in_ok-stanza.ensures) ∙ c.stanzas.invariant)

pub returns : goal.returns
returns c = rw c.new-2.ensures (after_finished c.stanzas.stanzas.items c.stanzas.lexer (sym c.stanzas-test.ensures) ∙ c.stanzas.invariant)
