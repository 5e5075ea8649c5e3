use Rattle.std.proofs.Common.{◌∙◌, sym}
use Rattle.up_wire.proofs.Cuts.{same_readings}
use Rattle.up_wire.proofs.laws.one_reading.Goals as goal

pub returns : goal.returns
returns c bytes rest left requests others h k = same_readings requests others rest left h.each k.each (sym h.whole ∙ k.whole) h.partial k.partial
