use Rattle.std.proofs.Common.{◌≡◌, ◌++◌, drop}
use Rattle.up_chart.specs.Moments.{clock_at, moments_from, no_clock}
use Rattle.up_engine.specs.Stands.{Stands}
use Rattle.up_model.specs.Answers.{answers}
use Rattle.up_model.specs.Chronicle.{Chronicle}
use Rattle.up_model.specs.Configuration.{Configuration}
use Rattle.up_tools.proofs.Watching.{Goes}
use Rattle.up_tools.proofs.watch.watch_all.Given as goal

abbrev pub invariant-loop-given : goal.invariant-loop-given
invariant-loop-given l = record {
  clock : clock_at l.clock (drop l.given-index l.inputs) ≡ clock_at no_clock l.inputs;
  goes : (config : Configuration) (c : Chronicle) → Stands l.fn.engine config c
      → Goes l.moments.items l.engine config l.clock (drop l.given-index l.inputs) (l.fn.moments.items ++ moments_from no_clock l.inputs (answers config c l.inputs));
}
