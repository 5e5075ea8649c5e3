use Rattle.up_event.proofs.Search.{at-live}
use Rattle.up_event.proofs.queue.Queue.turn_since.Goals as goal

pub turn_from-requires : goal.turn_from-requires
turn_from-requires c = at-live c.args.self.now c.args.id c.requires
