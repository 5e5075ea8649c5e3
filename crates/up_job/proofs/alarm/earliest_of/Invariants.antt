use Rattle.std.proofs.Common.{◌≤◌, take}
use Rattle.up_job.specs.Alarms.{AreFrom}
use Rattle.up_job.proofs.alarm.earliest_of.Given as goal

-- no later than it was, nor than those so far
abbrev pub invariant-loop-instance : goal.invariant-loop-instance
invariant-loop-instance l = (l.earliest ≤ l.alarm) × AreFrom l.earliest (take l.instance-index l.instances)
