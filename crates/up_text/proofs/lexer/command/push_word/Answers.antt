use Rattle.std.proofs.Common.{arith}
use Rattle.up_text.proofs.CommandTexts.{Told-word}
use Rattle.up_text.proofs.Runs.{Run-fits}
use Rattle.up_text.proofs.lexer.command.push_word.Goals as goal

pub push_gap-line-requires : goal.push_gap-line-requires
push_gap-line-requires c = omega (arith, Run-fits c.in_ok-reached.ensures.means, c.requires.in_range)

pub returns-clause-means : goal.returns-clause-means
returns-clause-means c = Told-word c.in_ok-reached.ensures.means c.push_gap-line.ensures
