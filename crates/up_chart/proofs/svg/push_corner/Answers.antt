use Rattle.std.proofs.Common.{codes}
use Rattle.std.proofs.lemmas.Result.{on_ok_weaker}
use Rattle.up_chart.specs.Svg.{attribute, corner}
use Rattle.up_chart.proofs.Growing.{two}
use Rattle.up_chart.proofs.svg.push_corner.Goals as goal

pub returns : goal.returns
unfolding corner
returns c =
    on_ok_weaker c.push_attribute-2.result
    (two c.args.text.now.items c.push_attribute.new.text.items c.push_attribute-2.new.text.items
    (attribute (codes "x") c.args.x) (attribute (codes "y") c.args.y)
    c.in_ok-push_attribute.ensures)
    c.push_attribute-2.ensures
