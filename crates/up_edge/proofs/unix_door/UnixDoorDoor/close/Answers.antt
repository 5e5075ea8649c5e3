-- for the gate's time alone: without it a wrong body is gone over once more, to offer an answer
use Rattle.std.proofs.Common.{rules}
use Rattle.up_edge.proofs.unix_door.UnixDoorDoor.close.Goals as goal

pub returns-then-make_room-clause-reports : goal.returns-then-make_room-clause-reports
returns-then-make_room-clause-reports c = search rules
