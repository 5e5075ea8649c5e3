use Rattle.std.proofs.Common.{◌∙◌, sym, ap}
use Rattle.up_text.proofs.Lexemes.{left_got}
use Rattle.up_stanza.specs.Reading.{put_before}
use Rattle.up_stanza.proofs.Telling.{tokens_more, tokens_end, statement_refused}
use Rattle.up_stanza.proofs.statement.read_statement.Goals as goal

pub tokens-smaller : goal.tokens-smaller
tokens-smaller c = left_got c.tokens.lexer c.in-Token.token c.next_token.new.lexer (rw c.in-Token.is at c.in_ok-token.ensures.next)

pub tokens-preserved : goal.tokens-preserved
tokens-preserved c =
    rw c.in_ok-push-in-Token.ensures.items
    (tokens_more c.tokens.tokens.items c.tokens.lexer c.next_token.new.lexer c.in-Token.token (rw c.in-Token.is at c.in_ok-token.ensures.next) ∙ c.tokens.invariant)

pub returns-in-Refused : goal.returns-in-Refused
returns-in-Refused c =
    let fails = rw c.in-Refused.is at c.in_ok-token.ensures.next in
    sym c.tokens.invariant ∙ ap (put_before c.tokens.tokens.items) (statement_refused c.tokens.lexer fails.0 fails.1)

pub returns : goal.returns
returns c = rw c.new.ensures (sym c.tokens.invariant ∙ tokens_end c.tokens.tokens.items c.tokens.lexer c.next_token.new.lexer (rw c.in-End.is at c.in_ok-token.ensures.next))
