use Rattle.std.proofs.Common.{◌-◌, ◌∷◌, [], sym, ◌∙◌, subst, arith, replicate}
use Rattle.up_model.specs.declared.input.Input.TheVariants.{Turn}
use Rattle.up_model.specs.Answers.{after_all}
use Rattle.up_model.specs.Due.{turn_event}
use Rattle.up_model.specs.Loads.{in_force}
use Rattle.up_model.specs.Queue.{queue}
use Rattle.up_disk.specs.Running.{Tells}
use Rattle.up_disk.proofs.Telling.{tells-none, tells-one, tells-then, tells-idle, one-more, none-found}
use Rattle.up_disk.proofs.running.push_turns.Goals as goal

pub loop-init : goal.loop-init
loop-init c config c' s = tells-none c.args.text.now.items c.args.engine.now config c' s

pub returns-then-not-has_turn : goal.returns-then-not-has_turn
returns-then-not-has_turn c config c' s =
    let so_far = c.loop.invariant config c' s in
    let d = after_all config c' (replicate c.loop.counter Turn) in
    let none = none-found (turn_event (in_force config d) (queue d) d) (sym (c.has_turn.ensures.up config d so_far.stands) ∙ c.if-not-has_turn.true) in
    tells-idle c.args.text.now.items c.loop.text.items c.loop.engine config c' c.loop.counter c.args.count (omega (arith, c.loop-test.true)) so_far
    (c.idle_turns.ensures c.loop.engine config d (c.args.count - c.loop.counter) so_far.stands none)

pub loop-preserved : goal.loop-preserved
loop-preserved c config c' s =
    let so_far = c.loop.invariant config c' s in
    let d = after_all config c' (replicate c.loop.counter Turn) in
    let one = tells-one c.loop.text.items c.push_answer.new.text.items c.push_answer.new.engine config d Turn (c.in_ok-push_answer.ensures.lines config d so_far.stands) (c.in_ok-push_answer.ensures.after config d so_far.stands) in
    subst (Tells c.args.text.now.items c.push_answer.new.text.items c.push_answer.new.engine config c') (one-more c.loop.counter Turn)
    (tells-then c.args.text.now.items c.loop.text.items c.push_answer.new.text.items c.loop.engine c.push_answer.new.engine config c' (replicate c.loop.counter Turn) (Turn ∷ []) so_far one)

pub returns : goal.returns
returns c config c' s =
    subst (λ n. Tells c.args.text.now.items c.loop.text.items c.loop.engine config c' (replicate n Turn)) (omega (arith, c.loop-test.false, c.loop.auto.counter-end)) (c.loop.invariant config c' s)
