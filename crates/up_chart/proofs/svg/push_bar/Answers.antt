use Rattle.std.proofs.Common.{codes}
use Rattle.std.proofs.lemmas.Result.{on_ok_weaker}
use Rattle.up_chart.specs.Svg.{attribute, bar, corner}
use Rattle.up_chart.proofs.Growing.{five}
use Rattle.up_chart.proofs.svg.push_bar.Goals as goal

pub returns : goal.returns
unfolding bar
returns c =
    on_ok_weaker c.push_attribute.result
    (five c.args.text.now.items c.push.new.text.items c.push-2.new.text.items c.push-3.new.text.items c.push_corner.new.text.items c.push_attribute.new.text.items
    (codes "<rect class=\"") c.args.class.now (codes "\"") (corner c.args.x c.args.y) (attribute (codes "width") c.args.width)
    c.in_ok-push.ensures c.in_ok-push-2.ensures c.in_ok-push-3.ensures c.in_ok-push_corner.ensures)
    c.push_attribute.ensures
