use Rattle.up_text.proofs.Literal.{expand_literal}
use Rattle.up_text.proofs.expansion.laws.literal.Goals as goal

pub returns : goal.returns
returns c = expand_literal
