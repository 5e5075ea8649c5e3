use Rattle.up_text.proofs.Readings.{line-read}
use Rattle.up_text.proofs.lexer.Lexer.line.Goals as goal

pub returns : goal.returns
returns c = rw (← c.self.view_is) (line-read _ _ (c.after_gap.ensures.passed c.self.inside.parens))
