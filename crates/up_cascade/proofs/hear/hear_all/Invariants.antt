use Rattle.std.proofs.Common.{◌≡◌, ◌≤◌, ◌-◌, Some, ℕ, [], ◌∷◌, length}
use Rattle.up_book.specs.Keys.{Stepping}
use Rattle.up_cascade.specs.Unheard.{NoneHears}
use Rattle.up_cascade.specs.Unfired.{NoneHolds}
use Rattle.up_cascade.proofs.Unheard.{HeardTo}
use Rattle.up_model.specs.declared.input.Input.TheVariants.{Turn}
use Rattle.up_model.specs.Chronicle.{Chronicle, Given, Handled}
use Rattle.up_model.specs.Due.{due}
use Rattle.up_model.specs.Readings.{event_at}
use Rattle.up_cascade.proofs.hear.hear_all.Given as goal

-- the jobs before this one have heard of the event, or were passed by
abbrev pub invariant-hearers : goal.invariant-hearers
invariant-hearers g l = record {
  within : l.from ≤ length l.setup.jobs;
  heard : (c : Chronicle) (e : ℕ) → due l.setup c ≡ [] → NoneHolds l.setup c → g.B.Book.stands l.fn.book Stepping l.setup (Handled e ∷ Given Turn ∷ c) → g.B.Book.event_place l.fn.book (Handled e ∷ Given Turn ∷ c) l.event ≡ Some e
      → HeardTo (g.B.Book.stands l.book Stepping l.setup) (g.B.Book.event_place l.book) l.setup e l.event l.from (Handled e ∷ Given Turn ∷ c);
  -- if no job hears of it there is none before this one
  unheard : (c : Chronicle) (e : ℕ) → g.B.Book.stands l.fn.book Stepping l.setup c → g.B.Book.event_place l.fn.book c l.event ≡ Some e → NoneHears l.setup (event_at e c) c → l.book ≡ l.fn.book;
}

abbrev pub decreases-hearers : goal.decreases-hearers
decreases-hearers g l = length l.setup.jobs - l.from
