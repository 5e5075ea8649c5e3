use Rattle.std.proofs.Common.{rules}
use Rattle.up_print.specs.Lines.{escaped}
use Rattle.up_print.proofs.lines.push_escaped.Goals as goal

pub returns-in-92 : goal.returns-in-92
unfolding escaped
returns-in-92 c = search rules
