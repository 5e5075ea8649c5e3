use Rattle.up_engine.proofs.IsolationLemmas.{isolated}
use Rattle.up_engine.proofs.laws.isolation.Goals as goal

pub returns : goal.returns
returns c = isolated
