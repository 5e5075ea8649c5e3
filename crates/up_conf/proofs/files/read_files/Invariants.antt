use Rattle.std.proofs.Common.{◌≡◌, take}
use Rattle.std.specs.List.{filter_map}
use Rattle.up_conf.specs.Folders.{job_of_file, spot_of_file}
use Rattle.up_conf.specs.Outcomes.{AreFaults}
use Rattle.up_conf.proofs.files.read_files.Given as goal

-- the jobs and the faults of the files so far
abbrev pub invariant-loop-file : goal.invariant-loop-file
invariant-loop-file l = record {
  jobs : l.jobs.items ≡ filter_map (job_of_file l.files) (take l.file-index l.files);
  faults : AreFaults (filter_map (spot_of_file l.files) (take l.file-index l.files)) l.faults.items;
}
