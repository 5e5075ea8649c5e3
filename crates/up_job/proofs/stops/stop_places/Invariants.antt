use Rattle.std.proofs.Common.{◌≡◌, take}
use Rattle.up_job.specs.JobLists as lists
use Rattle.up_job.proofs.stops.stop_places.Given as goal

-- the leaves of the jobs so far
abbrev pub invariant-loop-number : goal.invariant-loop-number
invariant-loop-number l = l.places.items ≡ lists.stop_places 0 (take l.number l.jobs)
