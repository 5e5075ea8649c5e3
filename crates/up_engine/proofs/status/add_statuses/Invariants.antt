use Rattle.std.proofs.Common.{◌≡◌, ◌++◌, Some, drop}
use Rattle.up_book.specs.Keys.{Mode, name_at}
use Rattle.up_model.specs.Chronicle.{Chronicle}
use Rattle.up_model.specs.Commands.{statuses}
use Rattle.up_model.specs.Configuration.{Configuration}
use Rattle.up_model.specs.Instances.{instances_of}
use Rattle.up_model.specs.Values.{Bytes}
use Rattle.up_engine.proofs.status.add_statuses.Given as goal

-- the lines so far, and those that are left, are the whole
abbrev pub invariant-loop-at : goal.invariant-loop-at
invariant-loop-at g l =
    (mode : Mode) (config : Configuration) (c : Chronicle) (its : Bytes) → g.B.Book.stands l.book mode config c → name_at config l.job ≡ Some its
    → l.lines.items ++ statuses (drop l.at (instances_of its c)) c ≡ l.initial.lines.items ++ statuses (instances_of its c) c
