use Rattle.up_model.proofs.MainLaws.{lone}
use Rattle.up_model.proofs.laws.one_main.Goals as goal

pub returns : goal.returns
returns c = lone
