use Rattle.std.proofs.Common.{◌≡◌, take, map}
use Rattle.up_model.specs.Environments.{job_env}
use Rattle.up_cascade.proofs.setup.environments_of.Given as goal

abbrev pub invariant-loop-file : goal.invariant-loop-file
invariant-loop-file l = l.all.items ≡ map (job_env l.base) (take l.file-index l.jobs)
