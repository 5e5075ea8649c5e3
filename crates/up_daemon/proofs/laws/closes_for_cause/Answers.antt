use Rattle.up_daemon.proofs.Departures.{closes_for_cause}
use Rattle.up_daemon.proofs.laws.closes_for_cause.Goals as goal

pub returns : goal.returns
returns c = closes_for_cause
