use Rattle.up_model.proofs.TurnLaws.{orderly}
use Rattle.up_model.proofs.laws.orderly.Goals as goal

pub returns : goal.returns
returns c = orderly
