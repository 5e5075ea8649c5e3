use Rattle.std.proofs.Common.{rules}
use Rattle.up_stanza.proofs.running.read_lines.Goals as goal

pub returns-in-Ok-Some-clause-script : goal.returns-in-Ok-Some-clause-script
returns-in-Ok-Some-clause-script c = search rules

pub returns-in-Ok-Some-clause-memory : goal.returns-in-Ok-Some-clause-memory
returns-in-Ok-Some-clause-memory c = search rules

pub returns-in-Ok-None-clause-script : goal.returns-in-Ok-None-clause-script
returns-in-Ok-None-clause-script c = search rules

pub returns-in-Ok-None-clause-memory : goal.returns-in-Ok-None-clause-memory
returns-in-Ok-None-clause-memory c = search rules

pub returns-in-Err-clause-script : goal.returns-in-Err-clause-script
returns-in-Err-clause-script c = search rules

pub returns-in-Err-clause-memory : goal.returns-in-Err-clause-memory
returns-in-Err-clause-memory c = search rules
