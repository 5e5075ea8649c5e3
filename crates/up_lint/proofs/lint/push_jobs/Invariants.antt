use Rattle.std.proofs.Common.{◌≡◌, ◌++◌, take}
use Rattle.std.specs.List.{flat_map}
use Rattle.up_lint.specs.Events.{scene_of}
use Rattle.up_lint.specs.Lint.{job_warnings}
use Rattle.up_lint.proofs.lint.push_jobs.Given as goal

abbrev pub invariant-loop-job : goal.invariant-loop-job
invariant-loop-job l = l.warnings.items ≡ l.initial.warnings.items ++ flat_map (job_warnings (scene_of l.world) l.files) (take l.job-index l.jobs)
