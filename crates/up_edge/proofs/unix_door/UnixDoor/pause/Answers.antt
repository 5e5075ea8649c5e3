-- for the gate's time alone: without it a wrong body is gone over once more, to offer an answer
use Rattle.std.proofs.Common.{rules}
use Rattle.up_edge.proofs.unix_door.UnixDoor.pause.Goals as goal

pub returns-clause-journal : goal.returns-clause-journal
returns-clause-journal c = search rules
