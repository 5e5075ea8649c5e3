use Rattle.std.proofs.Common.{◌≡◌, cond, length}
use Rattle.std.specs.List.{list_any}
use Rattle.up_pattern.specs.Pattern.{symbols, is_close}
use Rattle.up_pattern.specs.Matching.{unclosed_width}
use Rattle.up_pattern.proofs.pattern.unclosed_length.Given as goal

-- what is found so far is the answer, unless a ] is still ahead
abbrev pub invariant-symbols : goal.invariant-symbols
invariant-symbols l = cond (list_any is_close (symbols l.rest)) (unclosed_width (symbols l.rest)) l.length ≡ unclosed_width (symbols l.fn.pattern)

abbrev pub decreases-symbols : goal.decreases-symbols
decreases-symbols l = length l.rest
