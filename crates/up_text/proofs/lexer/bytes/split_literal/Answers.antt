use Rattle.up_text.proofs.Cuts.{IsCharBoundary-before, literal-ascii, Splits-prefix}
use Rattle.up_text.specs.Lexer.{is_literal}
use Rattle.up_text.proofs.lexer.bytes.split_literal.Goals as goal

pub split_at-requires : goal.split_at-requires
split_at-requires c = rw (c.literal_len.ensures, c.as_bytes.ensures.value) (IsCharBoundary-before (is_literal c.args.quote) c.args.text.now (λ byte. literal-ascii c.args.quote byte c.requires))

pub returns : goal.returns
returns c = rw (c.split_at.ensures.front, c.split_at.ensures.back, c.literal_len.ensures, c.as_bytes.ensures.value) (Splits-prefix (is_literal c.args.quote) c.args.text.now)
