use Rattle.std.proofs.Common.{◌≡◌, drop}
use Rattle.std.specs.List.{list_all}
use Rattle.up_image.specs.Definable.{is_definable}
use Rattle.up_image.proofs.definable.are_each_definable.Given as goal

-- the jobs so far can be given, so that the rest decides
abbrev pub invariant-loop-job : goal.invariant-loop-job
invariant-loop-job l = list_all is_definable (drop l.job-index l.jobs) ≡ list_all is_definable l.jobs
