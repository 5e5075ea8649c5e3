use Rattle.std.proofs.Common.{arith}
use Rattle.up_job.proofs.AlarmLemmas.{all-zero}
use Rattle.up_job.proofs.WaitLemmas.{beyond-all, quiet-none}
use Rattle.up_job.proofs.instances.Instances.remove.Goals as goal

pub invariant_of-self : goal.invariant_of-self
invariant_of-self c = (c.take.ensures.order, all-zero _, quiet-none _, beyond-all _ c.take.new.jobs.items (omega (arith, c.take.new.jobs.ok.0)))
