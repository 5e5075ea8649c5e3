use Rattle.std.proofs.Common.{◌∙◌, sym}
use Rattle.up_text.proofs.Signs.{signs-named}
use Rattle.up_text.proofs.expansion.read_dollar.Goals as goal

pub returns-clause-same : goal.returns-clause-same
returns-clause-same c = signs-named c.args.text.now c.split_key.result.0.now c.split_key.result.1.now c.in_default.ensures c.split_key.ensures.key (sym c.is_empty.ensures ∙ c.if-is_empty.false) c.split_key.ensures.rest
