use Rattle.up_stanza.proofs.Conforming.{conf_is}
use Rattle.up_stanza.proofs.conf.read_conf.Goals as goal

pub returns-in-Ok-Ok-clause-written : goal.returns-in-Ok-Ok-clause-written
returns-in-Ok-Ok-clause-written c = conf_is c.args.bytes.now c.in-Ok-Ok.stanzas (rw c.in-Ok-Ok.field-0-is at c.in-Ok-Ok.ensures)
