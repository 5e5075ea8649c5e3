use Rattle.up_engine.proofs.LeftLemmas.{left_told}
use Rattle.up_model.specs.Loads.{in_force}
use Rattle.up_engine.proofs.laws.left_as_told.Goals as goal

pub returns : goal.returns
returns c = λ engine config past stands. left_told (in_force config past) engine.book past stands.past
