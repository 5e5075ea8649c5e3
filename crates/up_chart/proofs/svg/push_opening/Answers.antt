use Rattle.std.proofs.Common.{codes}
use Rattle.up_chart.specs.declared.svg.TheConstants.{BEGINNING, LETTERS}
use Rattle.std.proofs.lemmas.Result.{on_ok_weaker}
use Rattle.up_chart.specs.Svg.{attribute, opening}
use Rattle.up_chart.proofs.Growing.{four}
use Rattle.up_chart.proofs.svg.push_opening.Goals as goal

pub returns : goal.returns
unfolding opening
returns c =
    on_ok_weaker c.push-2.result
    (four c.args.text.now.items c.push.new.text.items c.push_attribute.new.text.items c.push_attribute-2.new.text.items c.push-2.new.text.items
    BEGINNING.now (attribute (codes "width") c.args.width) (attribute (codes "height") c.args.height) LETTERS.now
    c.in_ok-push.ensures c.in_ok-push_attribute.ensures c.in_ok-push_attribute-2.ensures)
    c.push-2.ensures
