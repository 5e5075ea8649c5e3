use Rattle.up_model.proofs.MainLaws.{lone}
use Rattle.up_model.specs.Configuration.{started_with}
use Rattle.up_engine.proofs.laws.one_main.Goals as goal

pub returns : goal.returns
returns c = λ files table report base inputs compiled. lone (started_with base table) inputs
