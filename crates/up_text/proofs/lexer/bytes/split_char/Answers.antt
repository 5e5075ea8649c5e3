use Rattle.std.proofs.Common.{◌≡◌, drop, arith, length-drop}
use Rattle.std.proofs.lemmas.List.{take_rest}
use Rattle.std.proofs.lemmas.List.Sums.{prefix_len-le-length}
use Rattle.std.specs.List.{prefix_len}
use Rattle.up_text.proofs.Cuts.{IsCharBoundary-after_char, SplitsChar-first}
use Rattle.up_text.specs.Lexer.{is_high}
use Rattle.up_text.proofs.lexer.bytes.split_char.Goals as goal

pub overflow_add-high_len : goal.overflow_add-high_len
overflow_add-high_len c =
    let same : c.high_len.result ≡ prefix_len is_high (drop 1 c.args.text.now) = rw (c.high_len.ensures, c.as_bytes.ensures.value, take_rest) in
    omega (arith, prefix_len-le-length is_high (drop 1 c.args.text.now), length-drop 1 c.args.text.now)

pub split_at-requires : goal.split_at-requires
split_at-requires c = rw (c.high_len.ensures, c.as_bytes.ensures.value, take_rest) (IsCharBoundary-after_char c.args.text.now c.requires)

pub returns : goal.returns
returns c = rw (c.split_at.ensures.front, c.split_at.ensures.back, c.high_len.ensures, c.as_bytes.ensures.value, take_rest) (SplitsChar-first c.args.text.now c.requires)
