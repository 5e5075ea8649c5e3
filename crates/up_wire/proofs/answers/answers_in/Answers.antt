use Rattle.up_wire.proofs.Joining.{answer_shorter}
use Rattle.up_wire.proofs.answers.answers_in.Goals as goal

pub loop-answers-smaller : goal.loop-answers-smaller
loop-answers-smaller c =
    let found = rw c.in-Some.is at c.in_ok-answer.ensures.some in
    answer_shorter c.loop-answers.rest.now c.in-Some.after.now c.in-Some.answer found.1
