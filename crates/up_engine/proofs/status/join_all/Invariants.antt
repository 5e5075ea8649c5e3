use Rattle.std.proofs.Common.{◌≡◌, ◌++◌, if◌then◌else◌, drop}
use Rattle.std.specs.Prelude.{string_bytes}
use Rattle.up_model.specs.Commands as model
use Rattle.up_engine.proofs.status.join_all.Given as goal

-- what is left, after the lines so far, gives the whole
abbrev pub invariant-loop-line : goal.invariant-loop-line
invariant-loop-line l =
    string_bytes l.text ++ (if l.is_first then model.joined_lines (drop l.line-index l.lines) else model.more_lines (drop l.line-index l.lines))
    ≡ model.joined_lines l.lines
