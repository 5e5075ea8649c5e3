use Rattle.std.proofs.Common.{◌≡◌, drop}
use Rattle.up_expr.specs.JobEvents.{wanted_job}
use Rattle.up_expr.proofs.job_events.wanted_job.Given as goal

abbrev pub invariant-loop-test : goal.invariant-loop-test
invariant-loop-test l = wanted_job l.tests ≡ wanted_job (drop l.test-index l.tests)
