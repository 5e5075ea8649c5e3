use Rattle.up_stanza.proofs.Conforming.{conf_both}
use Rattle.up_stanza.proofs.laws.conf_is_written.Goals as goal

pub returns : goal.returns
returns c = conf_both
