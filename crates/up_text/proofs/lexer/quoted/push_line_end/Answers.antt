use Rattle.std.proofs.Common.{◌≡◌, true, ◌∙◌, sym}
use Rattle.up_text.proofs.Runs.{begins-low, feed-low, joint-low, joint-feed, fold-joint, Run-then, Run-feed, Run-joint}
use Rattle.up_text.specs.Lexer.{begins_joint}
use Rattle.up_text.specs.Tokens.{is_line_feed}
use Rattle.up_text.proofs.lexer.quoted.push_line_end.Goals as goal

pub split_first-requires : goal.split_first-requires
split_first-requires c = begins-low is_line_feed c.args.text.now feed-low (sym c.begins_feed.ensures ∙ c.if-begins_feed.true)

pub split_first-requires-else-begins_feed : goal.split_first-requires-else-begins_feed
split_first-requires-else-begins_feed c = joint-low c.args.text.now (fold-joint c.args.text.now c.requires (sym c.begins_feed.ensures ∙ c.if-begins_feed.false))

pub split_first-requires-else-begins_feed-2 : goal.split_first-requires-else-begins_feed-2
split_first-requires-else-begins_feed-2 c =
    let joint : begins_joint c.args.text.now ≡ true = fold-joint c.args.text.now c.requires (sym c.begins_feed.ensures ∙ c.if-begins_feed.false) in
    rw c.split_first-else-begins_feed.ensures.rest (begins-low is_line_feed _ feed-low (joint-feed c.args.text.now joint))

pub returns-then-begins_feed-clause-run : goal.returns-then-begins_feed-clause-run
returns-then-begins_feed-clause-run c = λ parens keep quote line quoting.
    rw c.split_first.ensures.rest (Run-feed parens keep quote c.args.joined c.args.text.now line _ _ quoting (sym c.begins_feed.ensures ∙ c.if-begins_feed.true) c.push_space.ensures)

pub returns-else-begins_feed-clause-run : goal.returns-else-begins_feed-clause-run
returns-else-begins_feed-clause-run c = λ parens keep quote line quoting.
    let joint : begins_joint c.args.text.now ≡ true = fold-joint c.args.text.now c.requires (sym c.begins_feed.ensures ∙ c.if-begins_feed.false) in
    rw (c.split_first-else-begins_feed-2.ensures.rest, c.split_first-else-begins_feed.ensures.rest)
    (Run-then (Run-joint parens keep quote c.args.joined c.args.text.now line _ quoting joint) (Run-feed parens keep quote c.args.joined _ line _ _ quoting (joint-feed c.args.text.now joint) c.push_space.ensures))
