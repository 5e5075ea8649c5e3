use Rattle.std.proofs.Common.{◌≡◌, ◌++◌, drop}
use Rattle.up_book.specs.Keys.{Mode}
use Rattle.up_model.specs.Chronicle.{Chronicle}
use Rattle.up_model.specs.Commands.{list_lines}
use Rattle.up_model.specs.Files.{job_names}
use Rattle.up_engine.proofs.status.lines_of.Given as goal

-- the lines so far, and those that are left, are the whole
abbrev pub invariant-loop-index : goal.invariant-loop-index
invariant-loop-index g l =
    (mode : Mode) (c : Chronicle) → g.B.Book.stands l.book mode l.setup c
    → l.lines.items ++ list_lines l.setup (job_names (drop l.index l.jobs)) c ≡ list_lines l.setup (job_names l.jobs) c
