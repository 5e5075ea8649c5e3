use Rattle.std.proofs.Common.{◌∙◌, ◌++◌, ◌∷◌, [], sym, ap, length, arith, append_assoc, append-nil, length-append}
use Rattle.std.specs.Vec.Iter.{into_iter_items}
use Rattle.up_model.specs.Answers.{answers, after_all}
use Rattle.up_engine.proofs.FreeLemmas.{stops_at, nothing}
use Rattle.up_engine.proofs.RunLemmas.{answered_more, refused_run, no_items}
use Rattle.up_engine.proofs.engine.Engine.run.Goals as goal

pub loop-input-init : goal.loop-input-init
unfolding answers after_all
loop-input-init c =
    let iterator = c.into_iter-input-iterator.ensures.into_iter_gives in
    record {
      meaning = λ config chronicle stands. (c.in_ok-steps.ensures.items, stands);
      rest = sym iterator.0;
      left = iterator.1 ∙ c.args.inputs.ok.0 ∙ ap length (sym iterator.0);
      count = c.in_ok-steps.ensures.len;
      room = omega (arith, c.in_ok-steps.ensures.exact, c.len.ensures, c.args.inputs.ok.0);
    }

pub loop-input-preserved : goal.loop-input-preserved
loop-input-preserved c =
    let taken = c.in-Some.ensures.steps in
    let before = c.loop-input.invariant in
    record {
      meaning = λ config chronicle stands.
          let so_far = before.meaning config chronicle stands in
          let means = c.in-Some-answer.ensures.meaning config (after_all config chronicle c.loop-input.yielded) so_far.1 in
          rw c.in-Ok.ensures.items (answered_more c.loop-input.steps.items c.in-Some-answer.step c.answer.new.self config chronicle c.loop-input.yielded c.in-Some.input so_far.0 means);
      rest = before.rest ∙ ap (λ left. c.loop-input.yielded ++ left) taken.0 ∙ sym (append_assoc c.loop-input.yielded (c.in-Some.input ∷ []) (into_iter_items c.next.new.self));
      left = omega (arith, ap length taken.0, taken.1, before.left);
      count = c.in-Ok.ensures.len ∙ omega (arith, before.count, length-append c.loop-input.yielded (c.in-Some.input ∷ []));
      room = omega (arith, before.room, c.push.ensures.capacity);
    }

pub returns-in-None-answer-clause-meaning : goal.returns-in-None-answer-clause-meaning
returns-in-None-answer-clause-meaning c config chronicle stands =
    let taken = c.in-Some.ensures.steps in
    let before = c.loop-input.invariant in
    let so_far = before.meaning config chronicle stands in
    let refused = c.in-None-answer.ensures.meaning config (after_all config chronicle c.loop-input.yielded) so_far.1 in
    let whole = before.rest ∙ ap (λ left. c.loop-input.yielded ++ left) taken.0 in
    rw c.new-steps.ensures (refused_run c.loop-input.steps.items c.answer.new.self config chronicle c.args.inputs.items c.loop-input.yielded (into_iter_items c.next.new.self) c.in-Some.input whole so_far.0 refused.0 refused.1)

pub returns-clause-meaning : goal.returns-clause-meaning
returns-clause-meaning c config chronicle stands =
    let before = c.loop-input.invariant in
    let so_far = before.meaning config chronicle stands in
    let none = no_items (into_iter_items c.loop-input.input-iterator) (sym before.left ∙ c.in-None.ensures.steps.0) in
    let whole = before.rest ∙ rw none (append-nil c.loop-input.yielded) in
    rw (c.new-steps-2.ensures, whole) so_far

pub returns-in-None-answer-clause-free : goal.returns-in-None-answer-clause-free
returns-in-None-answer-clause-free c config chronicle stands = λ down.
    let taken = c.in-Some.ensures.steps in
    let before = c.loop-input.invariant in
    let so_far = before.meaning config chronicle stands in
    let whole = before.rest ∙ ap (λ left. c.loop-input.yielded ++ left) taken.0 in
    rw c.new-steps.ensures (stops_at c.loop-input.steps.items config chronicle c.args.inputs.items c.loop-input.yielded (into_iter_items c.next.new.self) c.in-Some.input whole so_far.0
    (λ free. nothing (c.in-None-answer.ensures.free config (after_all config chronicle c.loop-input.yielded) so_far.1 free)))
