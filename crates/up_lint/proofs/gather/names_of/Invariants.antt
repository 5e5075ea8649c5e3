use Rattle.std.proofs.Common.{◌≡◌, drop, []}
use Rattle.std.specs.List.{flat_map}
use Rattle.up_lint.specs.Lint.{name_in}
use Rattle.up_lint.specs.Names.{with_names}
use Rattle.up_lint.proofs.gather.names_of.Given as goal

abbrev pub invariant-loop-job : goal.invariant-loop-job
invariant-loop-job l = with_names l.names (flat_map name_in (drop l.job-index l.jobs)) ≡ with_names [] (flat_map name_in l.jobs)
