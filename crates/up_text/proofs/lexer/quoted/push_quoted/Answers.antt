use Rattle.std.proofs.Common.{◌≡◌, true, ◌∙◌, sym, arith, rules}
use Rattle.std.proofs.lemmas.Bool.{eqb-true}
use Rattle.std.proofs.lemmas.Result.{err_from_is_err_and}
use Rattle.std.proofs.lemmas.List.{nil_from_length}
use Rattle.up_text.proofs.Runs.{Run-then, Run-fits, Run-closing, Broken-then, Broken-quote, begins-low, quote-low}
use Rattle.up_text.specs.Lexer.{is_byte}
use Rattle.up_pattern.specs.Lists.{begins}
use Rattle.up_text.proofs.lexer.quoted.push_quoted.Goals as goal

pub returns-then-is_empty : goal.returns-then-is_empty
returns-then-is_empty c = λ parens. Broken-then (c.parts.invariant.run parens) (Broken-quote parens c.args.quote c.parts.joined c.parts.rest.now (nil_from_length _ (eqb-true _ 0 (sym c.is_empty.ensures ∙ c.if-is_empty.true))))

pub push_part-requires-clause-in_range : goal.push_part-requires-clause-in_range
push_part-requires-clause-in_range c = omega (arith, Run-fits (c.parts.invariant.run true), c.requires.in_range)

pub returns-in_err-reached : goal.returns-in_err-reached
returns-in_err-reached c = λ parens.
    let p = err_from_is_err_and c.from_residual.result c.from_residual.ensures.1 in
    rw (p.1, p.2) (Broken-then (c.parts.invariant.run parens) (c.in_err-reached.ensures.means parens))

pub parts-preserved : goal.parts-preserved
parts-preserved c = record {
  run = λ parens. Run-then (c.parts.invariant.run parens) (c.in_ok-reached.ensures.means parens);
  is_text = let h = c.push_part in search rules;
}

pub split_first-requires : goal.split_first-requires
split_first-requires c = begins-low (is_byte c.args.quote) c.parts.rest.now (quote-low c.args.quote c.requires.quoting) (sym c.begins_byte.ensures ∙ c.parts-test.false)

pub returns : goal.returns
returns c = λ parens.
    let closes : begins (is_byte c.args.quote) c.parts.rest.now ≡ true = sym c.begins_byte.ensures ∙ c.parts-test.false in
    rw c.split_first.ensures.rest
    (Run-then (c.parts.invariant.run parens) (Run-closing parens c.args.keep c.args.quote c.parts.joined c.parts.rest.now c.parts.line _ _ c.requires.quoting closes (rw (← c.split_first.ensures.front) c.push_quoting.ensures)))
