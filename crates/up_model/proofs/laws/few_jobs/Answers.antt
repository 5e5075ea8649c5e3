use Rattle.up_model.proofs.FewJobs.{few-jobs}
use Rattle.up_model.proofs.laws.few_jobs.Goals as goal

pub returns : goal.returns
returns c = few-jobs
