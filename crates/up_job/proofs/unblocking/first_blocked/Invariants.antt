use Rattle.std.proofs.Common.{◌≡◌, drop}
use Rattle.up_job.specs.Unblocking.{blocked_from}
use Rattle.up_job.proofs.unblocking.first_blocked.Given as goal

-- the rest decides
abbrev pub invariant-loop-at : goal.invariant-loop-at
invariant-loop-at l = blocked_from l.id l.at (drop l.at l.instances) ≡ blocked_from l.id 0 l.instances
