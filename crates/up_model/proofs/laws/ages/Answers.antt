use Rattle.up_model.proofs.QueueLaws.{queue_by_age}
use Rattle.up_model.proofs.laws.ages.Goals as goal

pub returns : goal.returns
returns c = queue_by_age
