use Rattle.std.proofs.Common.{◌≡◌, ◌++◌, ℕ, List, Some, drop, map}
use Rattle.up_book.specs.Keys.{Mode, name_at, instance_place}
use Rattle.up_model.specs.Values.{Bytes}
use Rattle.up_model.specs.Chronicle.{Chronicle}
use Rattle.up_model.specs.Clock.{overdue}
use Rattle.up_model.specs.Configuration.{Configuration}
use Rattle.up_model.specs.Instances.{instances_of}
use Rattle.up_engine.proofs.time.add_overdue.Given as goal

-- those that were found, and those that are left, are the whole
abbrev pub invariant-loop-at : goal.invariant-loop-at
invariant-loop-at g l =
    (mode : Mode) (config : Configuration) (c : Chronicle) (name : Bytes) (done : List ℕ) → g.B.Book.stands l.book mode config c → name_at config l.index ≡ Some name
    → map (instance_place config c) l.initial.keys.items ≡ map Some done
    → (found : List ℕ) × (map (instance_place config c) l.keys.items ≡ map Some found)
    × (found ++ overdue (drop l.at (instances_of name c)) c ≡ done ++ overdue (instances_of name c) c)
