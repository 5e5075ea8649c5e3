use Rattle.std.proofs.Common.{◌≡◌, drop}
use Rattle.up_book.specs.Keys.{Stepping}
use Rattle.up_cascade.specs.Settling.{settle_all}
use Rattle.up_model.specs.Chronicle.{Chronicle}
use Rattle.up_cascade.proofs.settle.settle_all.Given as goal

-- the jobs from here on are still to settle
abbrev pub invariant-loop-index : goal.invariant-loop-index
invariant-loop-index g l =
    (c : Chronicle) → g.B.Book.stands l.fn.book Stepping l.setup c
    → (d : Chronicle) × (g.B.Book.stands l.book Stepping l.setup d) × (settle_all l.setup.jobs c ≡ settle_all (drop l.index l.setup.jobs) d)
