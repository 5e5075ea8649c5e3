use Rattle.std.proofs.Common.{◌++◌, ◌∷◌, [], length, sym, ◌∙◌, ap, subst, arith, append_assoc}
use Rattle.std.specs.Vec.Iter.{into_iter_items}
use Rattle.up_model.specs.Answers.{after_all}
use Rattle.up_disk.specs.Running.{Tells}
use Rattle.up_script.specs.ScriptInputs.{inputs_of_step, inputs_of_steps}
use Rattle.up_disk.proofs.Telling.{tells-none, tells-then, one-step-more}
use Rattle.up_disk.proofs.running.push_answers.Goals as goal

pub loop-given-init : goal.loop-given-init
loop-given-init c =
    let iterator = c.into_iter-given-iterator.ensures.into_iter_gives in
    record {
      told = λ config c' s. tells-none c.args.text.now.items c.args.engine.now config c' s;
      rest = sym iterator.0;
      left = iterator.1 ∙ c.args.steps.ok.0 ∙ ap length (sym iterator.0);
    }

pub loop-given-preserved : goal.loop-given-preserved
loop-given-preserved c =
    let taken = c.in-Some.ensures.steps in
    let before = c.loop-given.invariant in
    let steps = c.loop-given.yielded in
    record {
      told = λ config c' s.
          let so_far = before.told config c' s in
          let d = after_all config c' (inputs_of_steps steps) in
          subst (Tells c.args.text.now.items c.push_step_answers.new.text.items c.push_step_answers.new.engine config c') (one-step-more steps c.in-Some.given)
          (tells-then c.args.text.now.items c.loop-given.text.items c.push_step_answers.new.text.items c.loop-given.engine c.push_step_answers.new.engine config c' (inputs_of_steps steps) (inputs_of_step c.in-Some.given)
          so_far (c.in_ok-push_step_answers.ensures config d so_far.stands));
      rest = before.rest ∙ ap (λ left. steps ++ left) taken.0 ∙ sym (append_assoc steps (c.in-Some.given ∷ []) (into_iter_items c.next.new.self));
      left = omega (arith, ap length taken.0, taken.1, before.left);
    }
