use Rattle.std.proofs.Common.{◌≡◌, drop}
use Rattle.std.specs.Cmp.Lexicographic.{pointwise}
use Rattle.up_tools.specs.Same.{same_setting}
use Rattle.up_tools.proofs.changes.same.same_settings.Given as goal

abbrev pub invariant-loop-i : goal.invariant-loop-i
invariant-loop-i l = pointwise same_setting l.settings l.others ≡ pointwise same_setting (drop l.i l.settings) (drop l.i l.others)
