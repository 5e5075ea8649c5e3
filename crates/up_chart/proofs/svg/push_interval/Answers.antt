use Rattle.std.proofs.Common.{codes}
use Rattle.std.specs.Fmt.{decimal}
use Rattle.up_chart.specs.declared.svg.TheConstants.{BAR_ENDS}
use Rattle.std.proofs.lemmas.Result.{on_ok_weaker}
use Rattle.up_chart.specs.Svg.{interval}
use Rattle.up_chart.proofs.Growing.{four}
use Rattle.up_chart.proofs.svg.push_interval.Goals as goal

pub returns : goal.returns
unfolding interval
returns c =
    on_ok_weaker c.push-2.result
    (four c.args.text.now.items c.push_decimal.new.text.items c.push.new.text.items c.push_decimal-2.new.text.items c.push-2.new.text.items
    (decimal c.args.begin) (codes " to ") (decimal c.args.end) BAR_ENDS.now
    c.in_ok-push_decimal.ensures c.in_ok-push.ensures c.in_ok-push_decimal-2.ensures)
    c.push-2.ensures
