use Rattle.up_image.proofs.GivenImages.{read_back}
use Rattle.up_image.proofs.GivenJobs.{table_given}
use Rattle.up_image.proofs.laws.compiled_is_read.Goals as goal

pub returns : goal.returns
returns c = λ files jobs faults bytes result made image reads. read_back jobs bytes result (table_given files jobs faults made) image reads
