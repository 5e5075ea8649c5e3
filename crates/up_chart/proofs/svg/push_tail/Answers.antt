use Rattle.std.proofs.Common.{◌+◌, ◌++◌, ◌∙◌, ap, sym}
use Rattle.std.proofs.lemmas.Result.{on_ok_weaker}
use Rattle.std.specs.Fmt.{decimal}
use Rattle.up_chart.specs.Svg.{tail_text}
use Rattle.up_chart.proofs.svg.push_tail.Goals as goal

pub returns-in-Some : goal.returns-in-Some
returns-in-Some c =
    on_ok_weaker c.push_decimal.result
    (λ pushed. pushed ∙ ap (λ it. c.args.text.now.items ++ it) (ap (λ y. decimal (y + 10)) c.y_at.ensures.value ∙ ap tail_text (sym c.in-Some.is)))
    c.push_decimal.ensures
