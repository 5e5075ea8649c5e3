use Rattle.std.proofs.Common.{◌≡◌, drop}
use Rattle.up_text.specs.Bindings.{value_of}
use Rattle.up_marks.proofs.ruling.find.Given as goal

-- the rest decides
abbrev pub invariant-loop-i : goal.invariant-loop-i
invariant-loop-i l = value_of l.key (drop l.i l.vars) ≡ value_of l.key l.vars
