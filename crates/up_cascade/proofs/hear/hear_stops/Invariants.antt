use Rattle.std.proofs.Common.{◌≡◌, ◌≤◌, Some, ℕ}
use Rattle.up_book.specs.Keys.{Stepping, name_at}
use Rattle.up_cascade.specs.Settling.{hear_stops}
use Rattle.up_cascade.proofs.Positions.{Ahead}
use Rattle.up_model.specs.Chronicle.{Chronicle}
use Rattle.up_model.specs.Values.{Bytes}
use Rattle.up_cascade.proofs.hear.hear_stops.Given as goal

-- the instances from here on are still to hear of the event
abbrev pub invariant-loop-turn : goal.invariant-loop-turn
invariant-loop-turn g l = record {
  few : l.at ≤ l.turn;
  ahead : (c : Chronicle) (name : Bytes) (e : ℕ) → g.B.Book.stands l.fn.book Stepping l.setup c → name_at l.setup l.index ≡ Some name → g.B.Book.event_place l.fn.book c l.event ≡ Some e
      → Ahead (g.B.Book.stands l.book Stepping l.setup) (λ its. hear_stops l.setup its e) (g.B.Book.event_place l.fn.book c) (g.B.Book.event_place l.book) name l.at l.turn c;
}
