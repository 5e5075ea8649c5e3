use Rattle.std.proofs.Common.{◌≡◌, ◌++◌, ℕ, List, Some, drop, map}
use Rattle.up_book.specs.Keys.{Mode, instance_place}
use Rattle.up_model.specs.Chronicle.{Chronicle}
use Rattle.up_model.specs.Clock.{all_overdue}
use Rattle.up_model.specs.Configuration.{Configuration}
use Rattle.up_model.specs.Files.{job_names}
use Rattle.up_engine.proofs.time.all_overdue.Given as goal

-- those that were found, and those that are left, are the whole
abbrev pub invariant-loop-index : goal.invariant-loop-index
invariant-loop-index g l =
    (mode : Mode) (config : Configuration) (c : Chronicle) → g.B.Book.stands l.book mode config c → l.jobs ≡ config.jobs
    → (found : List ℕ) × (map (instance_place config c) l.keys.items ≡ map Some found)
    × (found ++ all_overdue (job_names (drop l.index l.jobs)) c ≡ all_overdue (job_names l.jobs) c)
