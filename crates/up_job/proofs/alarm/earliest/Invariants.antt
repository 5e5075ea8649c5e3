use Rattle.std.proofs.Common.{take}
use Rattle.up_job.specs.Alarms.{AllFrom}
use Rattle.up_job.proofs.alarm.earliest.Given as goal

abbrev pub invariant-loop-job : goal.invariant-loop-job
invariant-loop-job l = AllFrom l.earliest (take l.job-index l.jobs)
