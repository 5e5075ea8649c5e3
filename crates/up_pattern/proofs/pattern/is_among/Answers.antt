use Rattle.std.proofs.Common.{◌∙◌, sym}
use Rattle.up_pattern.proofs.SetReading.{among-on}
use Rattle.up_pattern.proofs.pattern.is_among.Goals as goal

pub items-preserved : goal.items-preserved
items-preserved c =
    among-on c.args.byte _ _ _ _ _ _ c.in-Some.ensures.0 c.byte_of-low.ensures c.range_end-high.ensures.end (sym c.if-is_between.ensures) (sym c.if-begins.ensures)
    ∙ c.items.invariant
