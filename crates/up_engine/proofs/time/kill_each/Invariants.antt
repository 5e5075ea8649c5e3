use Rattle.std.proofs.Common.{◌≡◌, ◌++◌, ℕ, List, Some, take, map}
use Rattle.up_book.specs.Keys.{Stepping, instance_place}
use Rattle.up_model.specs.Chronicle.{Chronicle}
use Rattle.up_model.specs.Clock.{killing}
use Rattle.up_model.specs.Configuration.{Configuration}
use Rattle.up_engine.proofs.time.kill_each.Given as goal

abbrev pub invariant-loop-key : goal.invariant-loop-key
invariant-loop-key g l =
    (config : Configuration) (c : Chronicle) (places : List ℕ) → g.B.Book.stands l.fn.book Stepping config c → map (instance_place config c) l.keys ≡ map Some places
    → g.B.Book.stands l.book Stepping config (killing (take l.key-index places) ++ c)
