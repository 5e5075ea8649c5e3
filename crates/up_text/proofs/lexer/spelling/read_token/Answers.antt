use Rattle.std.proofs.Common.{◌∙◌, sym}
use Rattle.std.proofs.lemmas.Result.{err_from_is_err_and}
use Rattle.up_text.proofs.Readings.{paren-read, token-memory}
use Rattle.up_text.proofs.Runs.{begins-low, paren-low}
use Rattle.up_text.specs.Tokens.{is_paren}
use Rattle.up_text.proofs.lexer.spelling.read_token.Goals as goal

pub split_first-requires : goal.split_first-requires
split_first-requires c = begins-low is_paren c.args.text.now paren-low (sym c.begins_paren.ensures ∙ c.if-begins_paren.true)

pub returns-in_err-token-clause-gives : goal.returns-in_err-token-clause-gives
returns-in_err-token-clause-gives c = λ inside.
    let p = err_from_is_err_and c.from_residual.result c.from_residual.ensures.1 in
    rw (p.1, p.2, c.in_err-token.ensures, c.if-parens.true) (token-memory _ _ _ (paren-read c.args.text.now c.args.line inside c.args.depth (sym c.begins_paren.ensures ∙ c.if-begins_paren.true)))

pub returns-then-begins_paren-clause-gives : goal.returns-then-begins_paren-clause-gives
returns-then-begins_paren-clause-gives c = λ inside.
    rw (c.in_ok-token.ensures, c.if-parens.true, c.split_first.ensures.front, c.split_first.ensures.rest, c.open_after_paren-after.ensures) (paren-read c.args.text.now c.args.line inside c.args.depth (sym c.begins_paren.ensures ∙ c.if-begins_paren.true))
