use Rattle.std.proofs.Common.{codes}
use Rattle.std.specs.Fmt.{decimal}
use Rattle.std.proofs.lemmas.Result.{on_ok_weaker}
use Rattle.up_chart.proofs.Growing.{four}
use Rattle.up_chart.proofs.svg.push_place.Goals as goal

pub returns : goal.returns
returns c =
    on_ok_weaker c.push_decimal-2.result
    (four c.args.text.now.items c.push.new.text.items c.push_decimal.new.text.items c.push-2.new.text.items c.push_decimal-2.new.text.items
    (codes " d=\"M") (decimal c.args.x) (codes " ") (decimal c.args.y)
    c.in_ok-push.ensures c.in_ok-push_decimal.ensures c.in_ok-push-2.ensures)
    c.push_decimal-2.ensures
