use Rattle.up_model.proofs.LeftLaws.{spends}
use Rattle.up_model.proofs.laws.left_falls.Goals as goal

pub returns : goal.returns
returns c = spends
