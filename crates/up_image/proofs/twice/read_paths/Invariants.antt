use Rattle.std.proofs.Common.{◌≡◌, map, filter, take}
use Rattle.up_conf.specs.Folders.{is_read}
use Rattle.up_image.proofs.twice.read_paths.Given as goal

-- the paths of the files so far that are read
abbrev pub invariant-loop-file : goal.invariant-loop-file
invariant-loop-file l = map (λ path. path.now) l.paths.items ≡ filter (is_read l.files) (map (λ file. file.path) (take l.file-index l.files))
