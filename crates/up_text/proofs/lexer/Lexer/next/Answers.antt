use Rattle.std.proofs.Common.{◌≡◌, true, ◌∙◌, sym, subst, arith, refl}
use Rattle.std.proofs.lemmas.Result.{err_from_is_err_and}
use Rattle.up_text.proofs.Readings.{reading-after, end-read, Answers-end, Answers-token, Answers-fault}
use Rattle.up_text.specs.Lexer.{is_line_end, place_of, IsFaultOf}
use Rattle.up_text.proofs.lexer.Lexer.next.Goals as goal

pub returns-then-is_line_end : goal.returns-then-is_line_end
returns-then-is_line_end c =
    let at = c.self.inside in
    let ends : is_line_end c.after_gap-line.result.1.now ≡ true = sym c.is_line_end.ensures ∙ c.if-is_line_end.true in
    rw (← c.self.view_is)
    (Answers-end (place_of at) _ _
    (reading-after _ _ (c.after_gap-line.ensures.passed at.parens) ∙ end-read c.after_gap-line.result.1.now c.after_gap-line.result.0 at.inside at.parens at.depth ends c.after_gap-line.ensures.ends)
    (rw (c.after_line_end-line.ensures.line, c.after_line_end-line.ensures.rest) refl))

pub read_token-requires-clause-parens : goal.read_token-requires-clause-parens
read_token-requires-clause-parens c = omega (arith, c.after_gap-line.ensures.shorter, c.self.invariant.parens)

pub returns-in_err-token : goal.returns-in_err-token
returns-in_err-token c =
    let at = c.self.inside in
    let p = err_from_is_err_and c.from_residual.result c.from_residual.ensures.1 in
    rw (← c.self.view_is, p.1, p.2)
    (Answers-fault (place_of at) _ _ (subst (λ read. IsFaultOf read c.in_err-token.field-0.0) (sym (reading-after _ _ (c.after_gap-line.ensures.passed at.parens))) (c.in_err-token.ensures.gives at.inside)))

pub invariant_of-self-2 : goal.invariant_of-self-2
invariant_of-self-2 c =
    record {
      lines = omega (arith, c.in_ok-token.ensures.lines, c.after_gap-line.ensures.in_range, c.self.invariant.lines);
      parens = omega (arith, c.in_ok-token.ensures.depths, c.after_gap-line.ensures.shorter, c.self.invariant.parens);
    }

pub returns : goal.returns
returns c =
    let at = c.self.inside in
    rw (← c.self.view_is)
    (Answers-token (place_of at) _ _ _ (reading-after _ _ (c.after_gap-line.ensures.passed at.parens) ∙ c.in_ok-token.ensures.gives at.inside) refl)
