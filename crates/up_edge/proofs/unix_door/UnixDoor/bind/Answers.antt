-- for the gate's time alone: without it a wrong body is gone over once more, to offer an answer
use Rattle.std.proofs.Common.{rules}
use Rattle.up_edge.proofs.unix_door.UnixDoor.bind.Goals as goal

pub returns-in-Some-clause-refused : goal.returns-in-Some-clause-refused
returns-in-Some-clause-refused c = search rules
