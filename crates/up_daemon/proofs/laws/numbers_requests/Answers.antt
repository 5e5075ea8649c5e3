use Rattle.up_daemon.proofs.Numberings.{numbered}
use Rattle.up_daemon.proofs.laws.numbers_requests.Goals as goal

pub returns : goal.returns
returns c = λ config chronicle start fed gave end round. numbered config chronicle start _ _ round
