use Rattle.std.proofs.Common.{◌≡◌, List, ℕ, take}
use Rattle.up_conf.specs.Folders.{bytes_at}
use Rattle.up_conf.specs.Lookups.{found_at}
use Rattle.up_conf.proofs.folder_index.map_of.Given as goal

-- the map has the files so far
abbrev pub invariant-loop-file : goal.invariant-loop-file
invariant-loop-file l = (path : List ℕ) → found_at path l.map ≡ bytes_at path (take l.file-index l.files)
