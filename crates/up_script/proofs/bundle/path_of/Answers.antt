use Rattle.std.proofs.Common.{arith}
use Rattle.std.proofs.lemmas.Grind.{common_steps}
use Rattle.up_script.specs.Bundle.{path_of}
use Rattle.up_script.proofs.bundle.path_of.Goals as goal

pub returns-else-line-lt6 : goal.returns-else-line-lt6
unfolding path_of
returns-else-line-lt6 c = grind (arith, common_steps)
