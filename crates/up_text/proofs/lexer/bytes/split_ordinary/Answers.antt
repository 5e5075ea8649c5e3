use Rattle.up_text.proofs.Cuts.{IsCharBoundary-before, ordinary-ascii, Splits-prefix}
use Rattle.up_text.specs.Lexer.{is_ordinary}
use Rattle.up_text.proofs.lexer.bytes.split_ordinary.Goals as goal

pub split_at-requires : goal.split_at-requires
split_at-requires c = rw (c.ordinary_len.ensures, c.as_bytes.ensures.value) (IsCharBoundary-before (is_ordinary c.args.parens) c.args.text.now (ordinary-ascii c.args.parens))

pub returns : goal.returns
returns c = rw (c.split_at.ensures.front, c.split_at.ensures.back, c.ordinary_len.ensures, c.as_bytes.ensures.value) (Splits-prefix (is_ordinary c.args.parens) c.args.text.now)
