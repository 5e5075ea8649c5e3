use Rattle.std.proofs.Common.{drop}
use Rattle.up_wire.proofs.Adding.{Awaits}
use Rattle.up_wire.proofs.usage.command_line.Given as goal

-- the commands that are left make the line whole
abbrev pub invariant-loop-its : goal.invariant-loop-its
invariant-loop-its l = Awaits (drop l.its-index l.its-items) l.line
