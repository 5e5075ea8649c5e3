use Rattle.up_client.proofs.Hearing.{first_heard}
use Rattle.up_client.proofs.talk.take.Goals as goal

pub returns-in-Ok : goal.returns-in-Ok
returns-in-Ok c none =
    (c.in-Ok.ensures.taken.0, first_heard _ c.feed.new.self.rest c.in-Ok.answers.items c.first_of.result c.in-Ok.ensures.taken.1 c.first_of.ensures)
