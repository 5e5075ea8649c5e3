use Rattle.std.proofs.Common.{◌≡◌, drop}
use Rattle.std.specs.List.{flat_map}
use Rattle.up_lint.specs.Exports.{job_keys}
use Rattle.up_lint.specs.Names.{with_names}
use Rattle.up_lint.proofs.exports.add_keys.Given as goal

abbrev pub invariant-loop-job : goal.invariant-loop-job
invariant-loop-job l = with_names l.names (flat_map job_keys (drop l.job-index l.jobs)) ≡ with_names l.initial.names (flat_map job_keys l.jobs)
