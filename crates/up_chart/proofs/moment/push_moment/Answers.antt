use Rattle.std.proofs.Common.{[], ◌∷◌, ◌++◌, ◌∙◌, ap}
use Rattle.up_value.specs.Values.{Bytes}
use Rattle.up_chart.specs.declared.moment.Moment.{Moment}
use Rattle.up_chart.proofs.moment.push_moment.Goals as goal

pub returns-in_ok-push-in-Ok : goal.returns-in_ok-push-in-Ok
returns-in_ok-push-in-Ok c =
    let made : Bytes → Moment = λ name. record { time = c.args.time; name = name; sign = c.args.sign } in
    c.in_ok-push-in-Ok.ensures.items ∙ ap (λ name. c.args.moments.now.items ++ made name ∷ []) c.in-Ok.ensures
