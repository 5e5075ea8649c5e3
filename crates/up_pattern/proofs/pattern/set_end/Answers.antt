use Rattle.std.proofs.Common.{arith}
use Rattle.up_pattern.proofs.SetReading.{set-closed}
use Rattle.up_pattern.proofs.pattern.set_end.Goals as goal

pub returns-in-Some-strip : goal.returns-in-Some-strip
returns-in-Some-strip c =
    let ends = set-closed _ _ _ _ _ c.items.invariant.on c.in-Some.ensures.0 c.in-Some-strip.ensures.0 in
    (ends.0, ends.1, ends.2, omega (arith, c.in-Some.ensures.1, c.in-Some-strip.ensures.1))
