use Rattle.up_text.proofs.Printing.{read_again}
use Rattle.up_text.proofs.lexer.laws.printed_and_read.Goals as goal

pub returns : goal.returns
returns c = read_again
