use Rattle.up_daemon.proofs.Served.{loses_nothing}
use Rattle.up_daemon.proofs.laws.loses_nothing.Goals as goal

pub returns : goal.returns
returns c = λ config chronicle start fed gave end round. loses_nothing config chronicle start.state fed gave end start.is.numbered start.is.connected round
