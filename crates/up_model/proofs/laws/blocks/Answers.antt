use Rattle.up_model.proofs.BlockLaws.{patient}
use Rattle.up_model.proofs.laws.blocks.Goals as goal

pub returns : goal.returns
returns c = patient
