use Rattle.std.proofs.Common.{rules}
use Rattle.up_stanza.specs.Signals.{name_of}
use Rattle.up_stanza.proofs.signal.signal_name.Goals as goal

pub returns : goal.returns
unfolding name_of
returns c = search rules
