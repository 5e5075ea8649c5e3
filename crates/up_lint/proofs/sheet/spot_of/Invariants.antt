use Rattle.std.proofs.Common.{◌≡◌, drop}
use Rattle.up_lint.specs.Sheets.{spot_of, spot_or}
use Rattle.up_lint.proofs.sheet.spot_of.Given as goal

abbrev pub invariant-loop-head : goal.invariant-loop-head
invariant-loop-head l = spot_or l.spot l.first l.word (drop l.head-index l.sheet) ≡ spot_of l.first l.word l.sheet
