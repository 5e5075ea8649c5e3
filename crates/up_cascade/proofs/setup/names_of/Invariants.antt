use Rattle.std.proofs.Common.{◌≡◌, take}
use Rattle.up_model.specs.Files.{job_names}
use Rattle.up_cascade.proofs.setup.names_of.Given as goal

abbrev pub invariant-loop-file : goal.invariant-loop-file
invariant-loop-file l = l.names.items ≡ job_names (take l.file-index l.files)
