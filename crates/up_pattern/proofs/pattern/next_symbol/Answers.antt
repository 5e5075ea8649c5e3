use Rattle.up_pattern.proofs.SetReading.{first-escaped}
use Rattle.up_pattern.proofs.pattern.next_symbol.Goals as goal

pub returns-in-Some-split_first : goal.returns-in-Some-split_first
returns-in-Some-split_first c = first-escaped _ _ _ _ _ c.in-Some.ensures.cases.0 c.if-byte-ne92.false c.in-Some-split_first.ensures.cases.0
