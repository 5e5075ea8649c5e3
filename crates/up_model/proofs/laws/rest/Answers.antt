use Rattle.up_model.proofs.Settling.{after_rests}
use Rattle.up_model.proofs.laws.rest.Goals as goal

pub returns : goal.returns
returns c = after_rests
