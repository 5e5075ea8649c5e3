use Rattle.std.proofs.Common.{◌≡◌, ◌+◌, ◌≤◌, length, take}
use Rattle.std.specs.List.{flat_map}
use Rattle.up_image.specs.Image.{job_part}
use Rattle.up_image.specs.declared.version.Version.TheVariants.{Two}
use Rattle.up_image.specs.declared.limits.TheConstants.{MAX_IMAGE}
use Rattle.up_image.proofs.image.is_small.Given as goal

-- how many bytes the head and the jobs so far have
abbrev pub invariant-loop-job : goal.invariant-loop-job
invariant-loop-job l = record {
  counted : l.len ≡ 12 + length (flat_map (job_part Two) (take l.job-index l.jobs));
  small : l.len ≤ MAX_IMAGE;
}
