-- For the gate's time alone: with this answer a wrong body is refused sooner.
use Rattle.std.proofs.Common.{rules}
use Rattle.up_stanza.proofs.fault.FaultCode.number.Goals as goal

pub returns-in-BadSignal : goal.returns-in-BadSignal
returns-in-BadSignal c = search rules
