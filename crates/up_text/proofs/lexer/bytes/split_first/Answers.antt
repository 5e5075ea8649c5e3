use Rattle.up_text.proofs.Cuts.{IsCharBoundary-after_first}
use Rattle.up_text.proofs.lexer.bytes.split_first.Goals as goal

pub split_at-requires : goal.split_at-requires
split_at-requires c = IsCharBoundary-after_first c.args.text.now c.utf8.text c.requires
