use Rattle.std.proofs.Common.{◌≡◌, drop}
use Rattle.up_print.specs.Advice.{bytes_at}
use Rattle.up_print.proofs.advice.bytes_at.Given as goal

abbrev pub invariant-loop-file : goal.invariant-loop-file
invariant-loop-file l = bytes_at l.files l.path ≡ bytes_at (drop l.file-index l.files) l.path
