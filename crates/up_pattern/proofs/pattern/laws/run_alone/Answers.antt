use Rattle.up_pattern.proofs.PatternLaws.{run-glob}
use Rattle.up_pattern.proofs.pattern.laws.run_alone.Goals as goal

pub returns : goal.returns
returns c = run-glob
