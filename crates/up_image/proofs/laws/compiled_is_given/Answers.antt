use Rattle.up_image.proofs.GivenJobs.{table_given}
use Rattle.up_image.proofs.laws.compiled_is_given.Goals as goal

pub returns : goal.returns
returns c = λ files jobs faults made. table_given files jobs faults made
