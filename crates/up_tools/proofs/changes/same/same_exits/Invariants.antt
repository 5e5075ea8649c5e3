use Rattle.std.proofs.Common.{◌≡◌, drop}
use Rattle.std.specs.Cmp.Lexicographic.{pointwise}
use Rattle.up_stanza.specs.Exits.{same_exit}
use Rattle.up_tools.proofs.changes.same.same_exits.Given as goal

abbrev pub invariant-loop-i : goal.invariant-loop-i
invariant-loop-i l = pointwise same_exit l.exits l.others ≡ pointwise same_exit (drop l.i l.exits) (drop l.i l.others)
