use Rattle.std.proofs.Common.{arith}
use Rattle.std.proofs.lemmas.Bool.Decides.{nat_tests}
use Rattle.up_pattern.proofs.Unclosed.{settled-flat, settled-result}
use Rattle.up_pattern.proofs.pattern.read_settled.Goals as goal

pub read-requires : goal.read-requires
read-requires c = λ short. settled-flat c.args.unclosed c.args.text.now c.requires (grind (arith, nat_tests))

pub returns-clause-settled : goal.returns-clause-settled
returns-clause-settled c = settled-result c.args.unclosed c.args.text.now c.read.result c.requires c.read.ensures.none c.read.ensures.end
