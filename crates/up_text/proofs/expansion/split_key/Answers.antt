use Rattle.up_text.proofs.Cuts.{IsCharBoundary-after}
use Rattle.up_text.proofs.Signs.{key-ascii}
use Rattle.up_value.specs.Names.{is_key_byte}
use Rattle.up_text.proofs.expansion.split_key.Goals as goal

pub split_at-requires : goal.split_at-requires
split_at-requires c = rw (c.key_bytes_len.ensures, c.as_bytes.ensures.value) (IsCharBoundary-after is_key_byte c.args.text.now c.utf8.text key-ascii)
