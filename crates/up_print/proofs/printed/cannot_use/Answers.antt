use Rattle.std.proofs.Common.{rules}
use Rattle.up_print.specs.Folders.{unusable}
use Rattle.up_print.proofs.printed.cannot_use.Goals as goal

pub returns : goal.returns
unfolding unusable
returns c = search rules
