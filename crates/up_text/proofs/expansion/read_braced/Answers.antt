use Rattle.std.proofs.Common.{◌∙◌, ◌∷◌, ap, sym}
use Rattle.up_text.proofs.Signs.{signs-braced, signs-opened, signs-opened_emptied}
use Rattle.up_text.proofs.expansion.read_braced.Goals as goal

pub returns-in-Some-clause-same : goal.returns-in-Some-clause-same
returns-in-Some-clause-same c = signs-braced c.args.text.now c.split_key.result.0.now c.split_key.result.1.now c.in-Some.rest.now c.split_key.ensures.key c.split_key.ensures.rest (sym c.is_empty.ensures ∙ c.if-is_empty.false) c.in-Some.ensures

pub returns-in-Some-after-clause-same : goal.returns-in-Some-after-clause-same
returns-in-Some-after-clause-same c = signs-opened c.args.text.now c.split_key.result.0.now c.split_key.result.1.now c.in-Some-after.rest.now c.split_key.ensures.key c.split_key.ensures.rest (sym c.is_empty.ensures ∙ c.if-is_empty.false) c.in-Some-after.ensures

pub returns-in-Some-after-3-clause-same : goal.returns-in-Some-after-3-clause-same
returns-in-Some-after-3-clause-same c = signs-opened_emptied c.args.text.now c.split_key.result.0.now c.split_key.result.1.now c.in-Some-after-3.rest.now c.split_key.ensures.key c.split_key.ensures.rest (sym c.is_empty.ensures ∙ c.if-is_empty.false) (c.in-Some-after-2.ensures ∙ ap (λ rest. 58 ∷ rest) c.in-Some-after-3.ensures)
