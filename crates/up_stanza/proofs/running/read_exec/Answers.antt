use Rattle.std.proofs.Common.{rules}
use Rattle.up_stanza.proofs.running.read_exec.Goals as goal

pub returns-in-Ok-2 : goal.returns-in-Ok-2
returns-in-Ok-2 c = search rules

pub returns-in-Ok : goal.returns-in-Ok
returns-in-Ok c = search rules
