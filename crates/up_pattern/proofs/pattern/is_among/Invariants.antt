use Rattle.std.proofs.Common.{◌≡◌, length}
use Rattle.up_pattern.specs.Pattern.{symbols, body, ranges, is_among}
use Rattle.up_pattern.proofs.pattern.is_among.Given as goal

abbrev pub invariant-items : goal.invariant-items
invariant-items l = is_among l.byte (ranges (body (symbols l.rest))) ≡ is_among l.byte (ranges (body (symbols l.fn.set)))

abbrev pub decreases-items : goal.decreases-items
decreases-items l = length l.rest
