use Rattle.up_daemon.proofs.Counted.{counts_calls}
use Rattle.up_daemon.proofs.laws.counts_calls.Goals as goal

pub returns : goal.returns
returns c = counts_calls
