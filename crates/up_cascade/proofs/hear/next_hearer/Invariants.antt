use Rattle.std.proofs.Common.{◌≤◌, ◌-◌, length}
use Rattle.up_book.specs.Histories.{OfEvent}
use Rattle.up_book.specs.Keys.{Stepping}
use Rattle.up_cascade.specs.Unheard.{AreUnheard}
use Rattle.up_model.specs.Readings.{event_at}
use Rattle.up_cascade.proofs.hear.next_hearer.Given as goal

-- no job before this one hears of the event
abbrev pub invariant-candidates : goal.invariant-candidates
invariant-candidates g l = record {
  later : l.fn.from ≤ l.from;
  unheard : OfEvent (g.B.Book.stands l.book Stepping) (g.B.Book.event_place l.book) l.setup l.event (λ c e. AreUnheard l.setup (event_at e c) c l.fn.from l.from);
}

abbrev pub decreases-candidates : goal.decreases-candidates
decreases-candidates g l = length l.jobs - l.from
