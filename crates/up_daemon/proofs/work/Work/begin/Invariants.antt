use Rattle.std.proofs.Common.{◌≡◌, length}
use Rattle.std.specs.Vec.Iter.{into_iter_items, into_iter_len}
use Rattle.up_daemon.specs.RoundStates.{Beginning}
use Rattle.up_daemon.specs.Working.{Goes, numbers_in}
use Rattle.up_daemon.proofs.work.Work.begin.Given as goal

-- the events that are left are still to be fed
abbrev pub invariant-loop-event : goal.invariant-loop-event
invariant-loop-event g l = record {
  goes : Goes (Beginning l.fn.first.items) l.fn.self (g.H.Host.calls l.fn.host) (Beginning (into_iter_items l.event-iterator)) l.self (g.H.Host.calls l.host);
  left : into_iter_len l.event-iterator ≡ length (into_iter_items l.event-iterator);
  numbers : numbers_in l.self ≡ numbers_in l.fn.self;
}
