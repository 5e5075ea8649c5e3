use Rattle.up_stanza.proofs.Conforming.{fault_both}
use Rattle.up_stanza.proofs.laws.fault_is_first.Goals as goal

pub returns : goal.returns
returns c = fault_both
