use Rattle.std.proofs.Common.{◌∙◌, sym}
use Rattle.up_wire.proofs.Cuts.{no_faults}
use Rattle.up_wire.proofs.laws.no_fault.Goals as goal

pub returns : goal.returns
returns c fault bytes rest requests h (others, left, each, whole, faulty) = no_faults fault requests others rest left h.each each (sym h.whole ∙ whole) h.partial faulty
