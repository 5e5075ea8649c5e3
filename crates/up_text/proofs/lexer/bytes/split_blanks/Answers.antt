use Rattle.up_text.proofs.Cuts.{IsCharBoundary-after, blank-ascii, Splits-prefix}
use Rattle.up_text.specs.Tokens.{is_blank}
use Rattle.up_text.proofs.lexer.bytes.split_blanks.Goals as goal

pub split_at-requires : goal.split_at-requires
split_at-requires c = rw (c.blanks_len.ensures, c.as_bytes.ensures.value) (IsCharBoundary-after is_blank c.args.text.now c.utf8.text blank-ascii)

pub returns : goal.returns
returns c = rw (c.split_at.ensures.front, c.split_at.ensures.back, c.blanks_len.ensures, c.as_bytes.ensures.value) (Splits-prefix is_blank c.args.text.now)
