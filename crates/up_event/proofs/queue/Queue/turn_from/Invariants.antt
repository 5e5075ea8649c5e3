use Rattle.std.proofs.Common.{length}
use Rattle.up_event.specs.Links.{from}
use Rattle.up_event.proofs.Search.{Left}
use Rattle.up_event.proofs.queue.Queue.turn_from.Given as goal

abbrev pub invariant-loop-at : goal.invariant-loop-at
invariant-loop-at l = Left l.self l.fn.start l.at

abbrev pub decreases-loop-at : goal.decreases-loop-at
decreases-loop-at l = length (from l.at l.self)
