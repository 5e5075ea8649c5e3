use Rattle.std.proofs.Common.{take}
use Rattle.up_disk.specs.Compiling.{HasTables}
use Rattle.up_disk.proofs.compiled.compile_all.Given as goal

-- the folders so far are compiled
abbrev pub invariant-loop-folder : goal.invariant-loop-folder
invariant-loop-folder l = HasTables (take l.folder-index l.folders) l.found
