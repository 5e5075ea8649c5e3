use Rattle.std.proofs.Common.{codes}
use Rattle.std.specs.Fmt.{decimal}
use Rattle.std.proofs.lemmas.Result.{on_ok_weaker}
use Rattle.up_chart.specs.Svg.{row_line}
use Rattle.up_chart.proofs.Growing.{three}
use Rattle.up_chart.proofs.svg.push_row_line.Goals as goal

pub returns : goal.returns
unfolding row_line
returns c =
    on_ok_weaker c.push-2.result
    (three c.args.text.now.items c.push.new.text.items c.push_decimal.new.text.items c.push-2.new.text.items
    (codes "<path class=\"line\" d=\"M0 ") (decimal c.args.y) (codes "h1000\"/>")
    c.in_ok-push.ensures c.in_ok-push_decimal.ensures)
    c.push-2.ensures
