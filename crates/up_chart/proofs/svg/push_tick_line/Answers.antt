use Rattle.std.proofs.Common.{codes}
use Rattle.std.specs.Fmt.{decimal}
use Rattle.std.proofs.lemmas.Result.{on_ok_weaker}
use Rattle.up_chart.specs.Svg.{tick_line}
use Rattle.up_chart.proofs.Growing.{five}
use Rattle.up_chart.proofs.svg.push_tick_line.Goals as goal

pub returns : goal.returns
unfolding tick_line
returns c =
    on_ok_weaker c.push-3.result
    (five c.args.text.now.items c.push.new.text.items c.push_decimal.new.text.items c.push-2.new.text.items c.push_decimal-2.new.text.items c.push-3.new.text.items
    (codes "<path class=\"tick\" d=\"M") (decimal c.args.x) (codes " 0V") (decimal c.args.below) (codes "\"/>")
    c.in_ok-push.ensures c.in_ok-push_decimal.ensures c.in_ok-push-2.ensures c.in_ok-push_decimal-2.ensures)
    c.push-3.ensures
