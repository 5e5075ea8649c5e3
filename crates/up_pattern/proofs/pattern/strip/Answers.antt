use Rattle.up_pattern.proofs.SetReading.{begins-other}
use Rattle.up_pattern.proofs.pattern.strip.Goals as goal

pub returns : goal.returns
returns c = begins-other c.args.byte c.args.text.now _ _ c.in-Some.ensures.cases.0 c.if-first-byte.false
