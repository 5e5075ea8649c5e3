use Rattle.std.proofs.Common.{◌≡◌, ◌-◌}
use Rattle.up_wire.specs.Fields.{variables_at}
use Rattle.up_wire.proofs.fields.variables_at.Given as goal

-- what is left gives the whole
abbrev pub invariant-loop-i : goal.invariant-loop-i
invariant-loop-i l = variables_at (l.count - l.i) l.vars l.rest ≡ variables_at l.count l.fn.vars l.fn.bytes
