use Rattle.std.proofs.Common.{◌++◌, ◌∙◌, ap, sym}
use Rattle.up_chart.proofs.Spans.{span_shown}
use Rattle.up_chart.proofs.seen.push_span.Goals as goal

pub returns : goal.returns
returns c =
    c.in_ok-push.ensures.items ∙ ap (λ it. c.args.spans.now.items ++ it) (span_shown c.args.end c.args.row.now (sym c.is_waiting.ensures ∙ c.if-is_waiting.false) c.if-end-row.false)
