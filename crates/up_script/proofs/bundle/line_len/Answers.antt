use Rattle.std.proofs.Common.{sym, length, arith, ◌≤◌}
use Rattle.std.specs.List.{position_or_len}
use Rattle.up_text.specs.Tokens.{is_line_feed}
use Rattle.up_script.proofs.BundleLemmas.{line_take, line_all}
use Rattle.up_script.proofs.bundle.line_len.Goals as goal

pub returns-then-feed-text-clause-after : goal.returns-then-feed-text-clause-after
returns-then-feed-text-clause-after c = rw c.feed_at-feed.ensures (sym (line_take c.args.text.now).1)

pub returns-else-feed-text-clause-after : goal.returns-else-feed-text-clause-after
returns-else-feed-text-clause-after c =
    let past : length c.args.text.now ≤ position_or_len is_line_feed c.args.text.now = omega (arith, c.feed_at-feed.ensures) in
    (line_all c.args.text.now past).1
