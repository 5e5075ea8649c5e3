use Rattle.std.proofs.Common.{◌≡◌, ◌++◌}
use Rattle.up_run.specs.Faults.{fault_line, repeated}
use Rattle.up_run.proofs.faults.push_lines.Given as goal

abbrev pub invariant-loop : goal.invariant-loop
invariant-loop l = l.text.items ≡ l.initial.text.items ++ repeated l.counter (fault_line l.whose l.call)
