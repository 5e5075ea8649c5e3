use Rattle.std.proofs.Common.{[], ◌∷◌, ◌++◌, ◌∙◌, ap, sym}
use Rattle.up_value.specs.Values.{Bytes}
use Rattle.up_chart.specs.declared.moment.Moment.{Moment}
use Rattle.up_chart.specs.declared.moment.Sign.TheVariants.{Comes, Enters}
use Rattle.up_chart.specs.Moments.{life_event, told_by}
use Rattle.up_chart.proofs.Growing.{more}
use Rattle.up_chart.proofs.moment.push_told.Goals as goal

pub returns-in_ok-push-in-Ok-entered : goal.returns-in_ok-push-in-Ok-entered
returns-in_ok-push-in-Ok-entered c =
    let before = c.args.moments.now.items in
    let entered : Moment = record { time = c.args.time; name = c.in-Some.name; sign = Enters c.args.state } in
    let came : Bytes → Moment = λ event. record { time = c.args.time; name = event; sign = Comes } in
    more before (entered ∷ []) (came c.in-Ok.event ∷ []) c.push-entered.new.self.items c.push.new.self.items c.in_ok-push-in-Ok-entered.ensures.items c.in-Ok-entered.ensures.items
    ∙ ap (λ event. before ++ (entered ∷ came event ∷ [])) (c.in-Ok.ensures ∙ ap (life_event c.args.event.now) c.as_str.ensures)
    ∙ ap (λ who. before ++ told_by c.args.time c.args.event.now c.args.state who) (sym c.in-Some.is)
