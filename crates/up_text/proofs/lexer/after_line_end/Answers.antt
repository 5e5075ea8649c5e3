use Rattle.std.proofs.Common.{◌+◌, ◌∙◌, sym, ap}
use Rattle.up_text.proofs.Readings.{feeds-first}
use Rattle.up_text.proofs.Runs.{begins-low, feed-low}
use Rattle.up_text.specs.Tokens.{is_line_feed}
use Rattle.up_text.proofs.lexer.after_line_end.Goals as goal

pub split_first-requires : goal.split_first-requires
split_first-requires c = begins-low is_line_feed c.args.text.now feed-low (sym c.begins_feed.ensures ∙ c.if-begins_feed.true)

pub returns-then-begins_feed-clause-line : goal.returns-then-begins_feed-clause-line
returns-then-begins_feed-clause-line c = ap (λ n. c.args.line + n) (sym (feeds-first c.args.text.now (sym c.begins_feed.ensures ∙ c.if-begins_feed.true)))
