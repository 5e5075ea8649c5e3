use Rattle.up_engine.proofs.IdleLemmas.{idle-turns}
use Rattle.up_engine.proofs.laws.idle_turns.Goals as goal

pub returns : goal.returns
returns c = idle-turns
