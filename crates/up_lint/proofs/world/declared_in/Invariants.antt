use Rattle.std.proofs.Common.{◌≡◌, take}
use Rattle.std.specs.List.{flat_map}
use Rattle.up_lint.specs.Events.{declared_of}
use Rattle.up_lint.proofs.world.declared_in.Given as goal

abbrev pub invariant-loop-job : goal.invariant-loop-job
invariant-loop-job l = l.events.items ≡ flat_map (declared_of l.files) (take l.job-index l.jobs)
