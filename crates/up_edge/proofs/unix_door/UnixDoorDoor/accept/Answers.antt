-- for the gate's time alone: without it a wrong body is gone over once more, to offer an answer
use Rattle.std.proofs.Common.{rules}
use Rattle.up_edge.proofs.unix_door.UnixDoorDoor.accept.Goals as goal

pub returns-in-Client-clause-reports : goal.returns-in-Client-clause-reports
returns-in-Client-clause-reports c = search rules
