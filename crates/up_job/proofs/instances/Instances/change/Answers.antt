use Rattle.std.proofs.Common.{arith}
use Rattle.up_job.proofs.AlarmLemmas.{all-zero}
use Rattle.up_job.proofs.WaitLemmas.{beyond-all, quiet-none}
use Rattle.up_job.proofs.instances.Instances.change.Goals as goal

pub invariant_of-self : goal.invariant_of-self
invariant_of-self c = (c.change.ensures.order, all-zero _, quiet-none _, beyond-all _ c.change.new.jobs.items (omega (arith, c.change.new.jobs.ok.0)))
