use Rattle.std.proofs.Common.{◌≡◌, drop}
use Rattle.up_chart.specs.Svg.{tick_step}
use Rattle.up_chart.proofs.scale.tick_step.Given as goal

abbrev pub invariant-loop-step : goal.invariant-loop-step
invariant-loop-step l = tick_step l.end l.steps ≡ tick_step l.end (drop l.step-index l.steps)
