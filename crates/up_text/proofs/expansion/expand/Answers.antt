use Rattle.std.proofs.Common.{◌∙◌, sym}
use Rattle.up_text.proofs.Written.{gives_malformed}
use Rattle.up_text.proofs.expansion.expand.Goals as goal

pub returns-then-not-is_expandable : goal.returns-then-not-is_expandable
returns-then-not-is_expandable c = gives_malformed c.args.text.now c.args.env.now (sym c.is_expandable.ensures ∙ c.if-not-is_expandable.true)
