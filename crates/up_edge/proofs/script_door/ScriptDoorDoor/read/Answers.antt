-- for the gate's time alone: without it a wrong body is gone over once more, to offer an answer
use Rattle.std.proofs.Common.{rules}
use Rattle.up_edge.proofs.script_door.ScriptDoorDoor.read.Goals as goal

pub returns-in-Nothing-clause-reports : goal.returns-in-Nothing-clause-reports
returns-in-Nothing-clause-reports c = search rules
