use Rattle.std.proofs.Common.{◌≡◌, ◌∙◌, sym, subst, true}
use Rattle.std.proofs.lemmas.Result.{err_from_is_err_and}
use Rattle.std.specs.Prelude.{MatchResult}
use Rattle.up_text.proofs.Readings.{token-memory, ordinary-read}
use Rattle.up_text.specs.Lexer.{place, ends_token, GivesToken, GivesFault}
use Rattle.up_text.proofs.lexer.spelling.read_word.Goals as goal

pub returns-then-not-ends_token-clause-gives : goal.returns-then-not-ends_token-clause-gives
returns-then-not-ends_token-clause-gives c = λ inside depth.
    subst (λ text. let at = place text c.args.line inside c.args.parens depth in MatchResult c.spell.result (λ read. GivesToken at read.0 (place read.2.now read.1 true c.args.parens depth)) (GivesFault at))
    (sym c.split_ordinary.ensures.joined) (c.spell.ensures.gives inside depth)

pub returns-in_err-token-clause-gives : goal.returns-in_err-token-clause-gives
returns-in_err-token-clause-gives c = λ inside depth.
    let p = err_from_is_err_and c.from_residual.result c.from_residual.ensures.1 in
    let after : ends_token c.args.parens c.split_ordinary.result.1.now ≡ true = sym c.ends_token.ensures ∙ c.if-not-ends_token.false in
    rw (p.1, p.2, c.in_err-token.ensures) (token-memory _ _ _ (ordinary-read c.args.parens c.args.text.now _ _ c.args.line inside depth c.split_ordinary.ensures c.requires.begins after))

pub returns-clause-gives : goal.returns-clause-gives
returns-clause-gives c = λ inside depth.
    let after : ends_token c.args.parens c.split_ordinary.result.1.now ≡ true = sym c.ends_token.ensures ∙ c.if-not-ends_token.false in
    rw c.in_ok-token.ensures (ordinary-read c.args.parens c.args.text.now _ _ c.args.line inside depth c.split_ordinary.ensures c.requires.begins after)
