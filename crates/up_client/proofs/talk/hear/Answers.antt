use Rattle.std.proofs.Common.{◌∙◌}
use Rattle.up_client.proofs.talk.hear.Goals as goal

pub returns-in-Some : goal.returns-in-Some
returns-in-Some g c bytes known =
    let so_far = c.loop-i.invariant bytes known in
    let heard = rw c.in-Some.is at (c.in_ok-answer.ensures so_far.0 so_far.1 so_far.2) in
    rw so_far.3 heard.3

pub loop-i-preserved : goal.loop-i-preserved
loop-i-preserved g c bytes known =
    let so_far = c.loop-i.invariant bytes known in
    let heard = rw c.in_default.is at (c.in_ok-answer.ensures so_far.0 so_far.1 so_far.2) in
    (heard.0, heard.1, heard.2, so_far.3 ∙ heard.3)
