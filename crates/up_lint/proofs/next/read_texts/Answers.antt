use Rattle.std.proofs.Common.{◌∙◌, sym, ap}
use Rattle.up_text.proofs.Lexemes.{left_got}
use Rattle.up_stanza.specs.Reading.{put_before}
use Rattle.up_stanza.proofs.Telling.{texts_more, texts_end, texts_refused}
use Rattle.up_lint.proofs.next.read_texts.Goals as goal

pub texts-smaller : goal.texts-smaller
texts-smaller c = left_got c.texts.lexer c.in-Token.token c.next_token.new.lexer (rw c.in-Token.is at c.in_ok-token.ensures)

pub texts-preserved : goal.texts-preserved
texts-preserved c =
    rw c.in_ok-push-in-Token.ensures.items
    (texts_more c.texts.texts.items c.texts.lexer c.next_token.new.lexer c.in-Token.token (rw c.in-Token.is at c.in_ok-token.ensures) ∙ c.texts.invariant)

pub returns-in-Refused : goal.returns-in-Refused
returns-in-Refused c =
    let fails = rw c.in-Refused.is at c.in_ok-token.ensures in
    sym c.texts.invariant ∙ ap (put_before c.texts.texts.items) (texts_refused c.texts.lexer fails.0 fails.1)

pub returns : goal.returns
returns c = rw c.new.ensures (sym c.texts.invariant ∙ texts_end c.texts.texts.items c.texts.lexer c.next_token.new.lexer (rw c.in-End.is at c.in_ok-token.ensures))
