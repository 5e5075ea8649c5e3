use Rattle.std.proofs.Common.{◌≡◌, true, ◌∙◌, sym}
use Rattle.up_text.proofs.Gaps.{GapRun-blanks, GapRun-comment, GapRun-feed, GapRun-joint, gap-feed_passes, gap-joint, comment-shorter}
use Rattle.up_text.proofs.Runs.{begins-low, feed-low, joint-low, joint-feed}
use Rattle.up_text.specs.Lexer.{begins_joint}
use Rattle.up_text.specs.Tokens.{is_line_feed}
use Rattle.up_pattern.specs.Lists.{begins}
use Rattle.up_text.proofs.lexer.gap.pass_part.Goals as goal

pub returns-then-begins_blank-clause-run : goal.returns-then-begins_blank-clause-run
returns-then-begins_blank-clause-run c = λ inside parens joined depth passes. GapRun-blanks inside parens depth joined c.args.text.now _ _ c.args.line c.split_blanks.ensures

pub returns-then-begins_comment-clause-run : goal.returns-then-begins_comment-clause-run
returns-then-begins_comment-clause-run c = λ inside parens joined depth passes. GapRun-comment inside parens depth joined c.args.text.now _ _ c.args.line c.split_line.ensures (sym c.begins_comment.ensures ∙ c.if-begins_comment.true)

pub returns-then-begins_comment-clause-shorter : goal.returns-then-begins_comment-clause-shorter
returns-then-begins_comment-clause-shorter c = comment-shorter c.args.text.now _ _ c.split_line.ensures (sym c.begins_comment.ensures ∙ c.if-begins_comment.true)

pub split_first-requires : goal.split_first-requires
split_first-requires c = begins-low is_line_feed c.args.text.now feed-low (sym c.begins_feed.ensures ∙ c.if-begins_feed.true)

pub returns-then-begins_feed-clause-run : goal.returns-then-begins_feed-clause-run
returns-then-begins_feed-clause-run c = λ inside parens joined depth passes.
    let feed : begins is_line_feed c.args.text.now ≡ true = sym c.begins_feed.ensures ∙ c.if-begins_feed.true in
    rw c.split_first.ensures.rest (GapRun-feed inside parens depth joined c.args.text.now c.args.line (sym passes ∙ gap-feed_passes c.args.passes c.args.text.now c.requires.in_gap feed) feed)

pub split_first-requires-2 : goal.split_first-requires-2
split_first-requires-2 c =
    joint-low c.args.text.now (gap-joint c.args.passes c.args.text.now c.requires.in_gap (sym c.begins_blank.ensures ∙ c.if-begins_blank.false) (sym c.begins_comment.ensures ∙ c.if-begins_comment.false) (sym c.begins_feed.ensures ∙ c.if-begins_feed.false))

pub split_first-requires-3 : goal.split_first-requires-3
split_first-requires-3 c =
    let joint : begins_joint c.args.text.now ≡ true = gap-joint c.args.passes c.args.text.now c.requires.in_gap (sym c.begins_blank.ensures ∙ c.if-begins_blank.false) (sym c.begins_comment.ensures ∙ c.if-begins_comment.false) (sym c.begins_feed.ensures ∙ c.if-begins_feed.false) in
    rw c.split_first-2.ensures.rest (begins-low is_line_feed _ feed-low (joint-feed c.args.text.now joint))

pub returns-clause-run : goal.returns-clause-run
returns-clause-run c = λ inside parens joined depth passes.
    let joint : begins_joint c.args.text.now ≡ true = gap-joint c.args.passes c.args.text.now c.requires.in_gap (sym c.begins_blank.ensures ∙ c.if-begins_blank.false) (sym c.begins_comment.ensures ∙ c.if-begins_comment.false) (sym c.begins_feed.ensures ∙ c.if-begins_feed.false) in
    rw (c.split_first-3.ensures.rest, c.split_first-2.ensures.rest) (GapRun-joint inside parens depth joined c.args.text.now c.args.line joint)
