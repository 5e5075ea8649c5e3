use Rattle.up_daemon.proofs.Served.{loses_nothing}
use Rattle.up_daemon.proofs.Wholes.{whole}
use Rattle.up_daemon.proofs.laws.stays_at_rest.Goals as goal

pub returns : goal.returns
returns c = λ config chronicle start fed gave end round connected. record {
  connected = connected;
  numbered = (loses_nothing config chronicle start.state fed gave end start.is.numbered start.is.connected round).numbered;
  whole = (whole config chronicle start.state _ _ start.is.whole round).0;
}
