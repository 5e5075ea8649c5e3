use Rattle.std.proofs.Common.{◌≡◌, Some}
use Rattle.up_book.specs.Keys.{Stepping, instance_at}
use Rattle.up_cascade.proofs.Repeating.{Again}
use Rattle.up_model.specs.Chronicle.{Chronicle}
use Rattle.up_model.specs.Instances.{Instance}
use Rattle.up_cascade.proofs.moves.moves.Given as goal

-- the instance is still there, and moves as often as is left
abbrev pub invariant-loop-turn : goal.invariant-loop-turn
invariant-loop-turn g l =
    (c : Chronicle) (its : Instance) → g.B.Book.stands l.fn.book Stepping l.setup c → instance_at l.setup c l.key ≡ Some its → its.file ≡ l.job
    → Again (g.B.Book.stands l.book Stepping l.setup) (g.B.Book.event_place l.fn.book c) (g.B.Book.event_place l.book) l.setup l.key l.job its l.turn c
