use Rattle.std.proofs.Common.{◌++◌, ◌∙◌, ap}
use Rattle.std.proofs.lemmas.Result.{on_ok_weaker}
use Rattle.up_chart.proofs.push.push_decimal.Goals as goal

pub returns : goal.returns
returns c =
    on_ok_weaker c.push.result
    (λ pushed. pushed ∙ ap (λ it. c.args.text.now.items ++ it) (c.as_str.ensures.value ∙ c.in_ok-digits.ensures.ok))
    c.push.ensures
