use Rattle.std.proofs.Common.{◌≡◌, drop}
use Rattle.up_lint.specs.Sheets.{bytes_at}
use Rattle.up_lint.proofs.sheet.bytes_at.Given as goal

abbrev pub invariant-loop-file : goal.invariant-loop-file
invariant-loop-file l = bytes_at l.files l.path ≡ bytes_at (drop l.file-index l.files) l.path
