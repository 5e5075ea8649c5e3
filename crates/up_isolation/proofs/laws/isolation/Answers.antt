use Rattle.up_isolation.proofs.Runs.{law-isolation}
use Rattle.up_isolation.proofs.laws.isolation.Goals as goal

pub returns : goal.returns
returns c = law-isolation
