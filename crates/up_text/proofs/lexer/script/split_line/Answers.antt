use Rattle.std.proofs.Common.{◌≡◌, arith, ◌∙◌, ap}
use Rattle.std.specs.List.{prefix_len}
use Rattle.up_text.proofs.Scripting.{BeginsLine-feed, BeginsLine-last, IsCharBoundary-after_line}
use Rattle.up_text.specs.Lexer.{is_in_line}
use Rattle.up_text.proofs.lexer.script.split_line.Goals as goal

pub split_at-requires : goal.split_at-requires
split_at-requires c =
    let end : c.line_len-end.result ≡ prefix_len is_in_line c.args.text.now = c.line_len-end.ensures ∙ ap (prefix_len is_in_line) c.as_bytes.ensures.value in
    rw end (IsCharBoundary-after_line c.args.text.now c.utf8.text (omega arith))

pub returns-then-end-text : goal.returns-then-end-text
returns-then-end-text c =
    let end : c.line_len-end.result ≡ prefix_len is_in_line c.args.text.now = c.line_len-end.ensures ∙ ap (prefix_len is_in_line) c.as_bytes.ensures.value in
    rw (c.split_at.ensures.front, c.split_at.ensures.back, end) (BeginsLine-feed c.args.text.now (omega arith))

pub returns-else-end-text : goal.returns-else-end-text
returns-else-end-text c =
    let end : c.line_len-end.result ≡ prefix_len is_in_line c.args.text.now = c.line_len-end.ensures ∙ ap (prefix_len is_in_line) c.as_bytes.ensures.value in
    BeginsLine-last c.args.text.now c.requires (omega arith)
