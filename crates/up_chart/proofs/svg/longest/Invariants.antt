use Rattle.std.proofs.Common.{◌≡◌, max, drop}
use Rattle.up_chart.specs.Svg.{longest}
use Rattle.up_chart.proofs.svg.longest.Given as goal

abbrev pub invariant-loop-label : goal.invariant-loop-label
invariant-loop-label l = max l.most (longest (drop l.label-index l.labels)) ≡ longest l.labels
