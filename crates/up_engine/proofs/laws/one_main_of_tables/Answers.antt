use Rattle.up_model.proofs.MainLaws.{lone}
use Rattle.up_model.specs.Configuration.{started_with}
use Rattle.up_engine.proofs.laws.one_main_of_tables.Goals as goal

pub returns : goal.returns
returns c = λ jobs base inputs table. lone (started_with base jobs) inputs
