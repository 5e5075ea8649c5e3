use Rattle.std.proofs.Common.{sym, ap, ◌∙◌, option_and_then}
use Rattle.up_stanza.specs.Signals.{signal_in}
use Rattle.up_image.proofs.Numbering.{signal_reads}
use Rattle.up_image.proofs.take_lists.signal_of.Goals as goal

pub returns-in-Some-read : goal.returns-in-Some-read
returns-in-Some-read c = sym (signal_reads c.args.number) ∙ (ap (option_and_then signal_in) (sym c.in-Some.ensures) ∙ sym c.in-Some-read.ensures)

pub returns-in-None-read : goal.returns-in-None-read
returns-in-None-read c = sym (signal_reads c.args.number) ∙ (ap (option_and_then signal_in) (sym c.in-Some.ensures) ∙ sym c.in-None-read.ensures)

pub returns-in-None : goal.returns-in-None
returns-in-None c = sym (signal_reads c.args.number) ∙ ap (option_and_then signal_in) (sym c.in-None.ensures)
