use Rattle.std.proofs.Common.{◌≡◌, ◌++◌, take}
use Rattle.up_job.specs.JobLists.{stops_of}
use Rattle.up_job.proofs.stops.add_stops_of.Given as goal

-- what was there, and after it the leaves so far
abbrev pub invariant-loop-instance : goal.invariant-loop-instance
invariant-loop-instance l = l.places.items ≡ l.fn.places.items ++ stops_of l.number (take l.instance-index l.instances)
