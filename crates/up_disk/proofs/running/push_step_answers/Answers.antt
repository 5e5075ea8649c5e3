use Rattle.up_disk.proofs.Telling.{tells-none, tells-one}
use Rattle.up_disk.proofs.running.push_step_answers.Goals as goal

pub returns-in-Nothing : goal.returns-in-Nothing
returns-in-Nothing c config c' s = rw c.in-Nothing.is (tells-none c.args.text.now.items c.args.engine.now config c' s)

pub returns-in_ok-push_answer-in-One : goal.returns-in_ok-push_answer-in-One
returns-in_ok-push_answer-in-One c config c' s =
    let told = c.in_ok-push_answer-in-One.ensures in
    rw c.in-One.is (tells-one c.args.text.now.items c.push_answer.new.text.items c.push_answer.new.engine config c' c.in-One.given (told.lines config c' s) (told.after config c' s))

pub returns-in_ok-push_turns-in-Turns : goal.returns-in_ok-push_turns-in-Turns
returns-in_ok-push_turns-in-Turns c config c' s = rw c.in-Turns.is (c.in_ok-push_turns-in-Turns.ensures config c' s)
