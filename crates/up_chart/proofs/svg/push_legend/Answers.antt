use Rattle.std.proofs.Common.{codes}
use Rattle.std.specs.Fmt.{decimal}
use Rattle.up_chart.specs.declared.svg.TheConstants.{LOOKS}
use Rattle.std.proofs.lemmas.Result.{on_ok_weaker}
use Rattle.up_chart.specs.Svg.{legend}
use Rattle.up_chart.proofs.Growing.{four}
use Rattle.up_chart.proofs.svg.push_legend.Goals as goal

pub returns : goal.returns
unfolding legend
returns c =
    on_ok_weaker c.push-3.result
    (four c.args.text.now.items c.push.new.text.items c.push-2.new.text.items c.push_decimal.new.text.items c.push-3.new.text.items
    LOOKS.now (codes "<g transform=\"translate(") (decimal c.args.left) (codes ",44)\">\n")
    c.in_ok-push.ensures c.in_ok-push-2.ensures c.in_ok-push_decimal.ensures)
    c.push-3.ensures
