use Rattle.std.proofs.Common.{◌≡◌, ◌++◌, ℕ, List, Some, drop, map}
use Rattle.up_book.specs.Keys.{Mode}
use Rattle.up_model.specs.Chronicle.{Chronicle}
use Rattle.up_model.specs.Configuration.{Configuration}
use Rattle.up_model.specs.Events as model
use Rattle.up_cascade.proofs.events.events_of.Given as goal

-- the events so far, and those that are left, are the whole
abbrev pub invariant-loop-key : goal.invariant-loop-key
invariant-loop-key g l =
    (mode : Mode) (config : Configuration) (c : Chronicle) (places : List ℕ) → g.B.Book.stands l.book mode config c → map (g.B.Book.event_place l.book c) l.keys ≡ map Some places
    → map (λ event. event.now) l.events.items ++ model.events_at (drop l.key-index places) c ≡ model.events_at places c
