use Rattle.std.proofs.Common.{rules}
use Rattle.up_stanza.specs.Numbers.{number_in}
use Rattle.up_stanza.proofs.number.number_in.Goals as goal

pub returns-then-number-high-clause-value : goal.returns-then-number-high-clause-value
unfolding number_in
returns-then-number-high-clause-value c = search rules

pub returns-then-number-high-clause-range : goal.returns-then-number-high-clause-range
returns-then-number-high-clause-range c = search rules
