use Rattle.std.proofs.Common.{rules}
use Rattle.up_stanza.proofs.running.read_action.Goals as goal

pub returns-then-is : goal.returns-then-is
returns-then-is c = search rules

pub returns-then-is-2 : goal.returns-then-is-2
returns-then-is-2 c = search rules

pub returns-else-is-2 : goal.returns-else-is-2
returns-else-is-2 c = search rules

pub returns-in-End : goal.returns-in-End
returns-in-End c = search rules

pub returns-in-Refused : goal.returns-in-Refused
returns-in-Refused c = search rules
