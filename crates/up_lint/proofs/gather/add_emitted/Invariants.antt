use Rattle.std.proofs.Common.{◌≡◌, drop}
use Rattle.std.specs.List.{flat_map}
use Rattle.up_lint.specs.Lint.{emits_of}
use Rattle.up_lint.specs.Names.{with_names}
use Rattle.up_lint.proofs.gather.add_emitted.Given as goal

abbrev pub invariant-loop-job : goal.invariant-loop-job
invariant-loop-job l = with_names l.names (flat_map emits_of (drop l.job-index l.jobs)) ≡ with_names l.initial.names (flat_map emits_of l.jobs)
