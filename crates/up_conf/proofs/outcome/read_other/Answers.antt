use Rattle.std.proofs.Common.{◌∙◌, sym, ap, rules}
use Rattle.std.specs.Option.{option_copied}
use Rattle.up_stanza.specs.Confs.{conf_of}
use Rattle.up_conf.proofs.Overriding.{override_spot}
use Rattle.up_conf.proofs.outcome.read_other.Goals as goal

pub returns : goal.returns
returns c =
    override_spot c.args.index.now c.args.file.now c.in-Some.name.now c.in_ok-fault.fault c.requires
    (rw (← c.as_str.ensures) (sym c.overridden_name.ensures ∙ ap option_copied c.in-Some.is))
    (sym c.in_ok-has_conf.ensures ∙ search rules)
    (c.in_ok-fault.ensures (conf_of c.args.file.now.bytes) (search rules))
