use Rattle.up_text.proofs.Cuts.{IsCharBoundary-before, in_line-ascii, Splits-prefix}
use Rattle.up_text.specs.Lexer.{is_in_line}
use Rattle.up_text.proofs.lexer.bytes.split_line.Goals as goal

pub split_at-requires : goal.split_at-requires
split_at-requires c = rw (c.line_len.ensures, c.as_bytes.ensures.value) (IsCharBoundary-before is_in_line c.args.text.now in_line-ascii)

pub returns : goal.returns
returns c = rw (c.split_at.ensures.front, c.split_at.ensures.back, c.line_len.ensures, c.as_bytes.ensures.value) (Splits-prefix is_in_line c.args.text.now)
