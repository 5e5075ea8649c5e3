use Rattle.std.proofs.Common.{◌≡◌, ◌≤◌, Some}
use Rattle.up_book.specs.Keys.{Stepping, name_at}
use Rattle.up_cascade.specs.Settling.{settle_each}
use Rattle.up_cascade.proofs.Positions.{Ahead}
use Rattle.up_model.specs.Chronicle.{Chronicle}
use Rattle.up_model.specs.Values.{Bytes}
use Rattle.up_cascade.proofs.settle.settle_each.Given as goal

-- the instances from here on are still to move
abbrev pub invariant-loop-turn : goal.invariant-loop-turn
invariant-loop-turn g l = record {
  few : l.at ≤ l.turn;
  ahead : (c : Chronicle) (name : Bytes) → g.B.Book.stands l.fn.book Stepping l.setup c → name_at l.setup l.index ≡ Some name
      → Ahead (g.B.Book.stands l.book Stepping l.setup) settle_each (g.B.Book.event_place l.fn.book c) (g.B.Book.event_place l.book) name l.at l.turn c;
}
