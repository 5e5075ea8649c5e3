use Rattle.std.proofs.Common.{◌≡◌, drop, []}
use Rattle.std.specs.List.{flat_map}
use Rattle.up_lint.specs.Lint.{starts_of}
use Rattle.up_lint.specs.Names.{with_names}
use Rattle.up_lint.proofs.gather.commanded_in.Given as goal

abbrev pub invariant-loop-job : goal.invariant-loop-job
invariant-loop-job l = with_names l.names (flat_map starts_of (drop l.job-index l.jobs)) ≡ with_names [] (flat_map starts_of l.jobs)
