use Rattle.std.proofs.Common.{take}
use Rattle.up_marks.specs.Finding.{IsLeastFrom, has_wanted}
use Rattle.up_marks.specs.Ruling.{admits}
use Rattle.up_marks.proofs.finder.next_wanted.Given as goal

-- the variables so far
abbrev pub invariant-loop-i : goal.invariant-loop-i
invariant-loop-i l = IsLeastFrom (has_wanted (admits l.jobs l.event) l.event.name (take l.i l.event.vars) l.leaves) l.from l.next
