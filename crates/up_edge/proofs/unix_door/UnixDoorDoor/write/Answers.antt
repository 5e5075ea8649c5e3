-- for the gate's time alone: without it a wrong body is gone over once more, to offer an answer
use Rattle.std.proofs.Common.{rules}
use Rattle.up_edge.proofs.unix_door.UnixDoorDoor.write.Goals as goal

pub returns-in-Ok-send-clause-reports : goal.returns-in-Ok-send-clause-reports
returns-in-Ok-send-clause-reports c = search rules
