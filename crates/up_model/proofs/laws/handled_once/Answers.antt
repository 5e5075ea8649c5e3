use Rattle.up_model.proofs.TurnLaws.{handled_once}
use Rattle.up_model.proofs.laws.handled_once.Goals as goal

pub returns : goal.returns
returns c = handled_once
