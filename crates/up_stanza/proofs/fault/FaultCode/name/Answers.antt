-- For the gate's time alone: with this answer a wrong body is refused sooner.
use Rattle.std.proofs.Common.{rules}
use Rattle.up_stanza.proofs.fault.FaultCode.name.Goals as goal

pub returns-in-NotText : goal.returns-in-NotText
returns-in-NotText c = search rules
