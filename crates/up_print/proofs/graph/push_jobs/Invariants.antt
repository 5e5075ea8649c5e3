use Rattle.std.proofs.Common.{◌≡◌, ◌++◌, take}
use Rattle.std.specs.List.{flat_map}
use Rattle.up_print.specs.Graph.{job_lines}
use Rattle.up_print.proofs.graph.push_jobs.Given as goal

abbrev pub invariant-loop-job : goal.invariant-loop-job
invariant-loop-job l = l.text.items ≡ l.initial.text.items ++ flat_map job_lines (take l.job-index l.jobs)
