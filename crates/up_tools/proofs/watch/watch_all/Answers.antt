use Rattle.std.proofs.Common.{◌≡◌, ◌∷◌, ◌+◌, ◌++◌, ◌∙◌, List, drop, subst, sym, ap}
use Rattle.up_model.specs.declared.input.Input.{Input}
use Rattle.up_model.specs.Answers.{answers}
use Rattle.up_chart.specs.Moments.{clock_at, moments_from, no_clock}
use Rattle.up_tools.proofs.Watching.{Goes, Step, moved, splits}
use Rattle.up_tools.proofs.watch.watch_all.Goals as goal

pub loop-given-preserved : goal.loop-given-preserved
loop-given-preserved c =
    let given = c.given-item.result in
    let inputs = c.args.inputs.now in
    let rest = drop (c.loop-given.given-index + 1) inputs in
    let cut : drop c.loop-given.given-index inputs ≡ given ∷ rest = splits inputs c.loop-given.given-index given c.loop-given-test.true c.given-item.is in
    let step : Step c.loop-given.moments.items c.watch_one.new.moments.items c.loop-given.engine c.watch_one.new.engine c.loop-given.clock c.after-clock.result given c.time.result =
    record {
      reads = c.after-clock.ensures;
      timed = c.time.ensures;
      added = λ config c' s. c.in_ok-watch_one.ensures.moments config c' s;
      stands = λ config c' s. c.in_ok-watch_one.ensures.after config c' s;
    } in
    record {
      clock = ap (λ it. clock_at it rest) c.after-clock.ensures ∙ sym (ap (clock_at c.loop-given.clock) cut) ∙ c.loop-given.invariant.clock;
      goes = λ config c' s.
          let whole = c.args.moments.now.items ++ moments_from no_clock inputs (answers config c' inputs) in
          moved c.loop-given.moments.items c.watch_one.new.moments.items c.loop-given.engine c.watch_one.new.engine config c.loop-given.clock c.after-clock.result given c.time.result rest whole step
          (subst (λ (it : List Input). Goes c.loop-given.moments.items c.loop-given.engine config c.loop-given.clock it whole) cut (c.loop-given.invariant.goes config c' s));
    }
