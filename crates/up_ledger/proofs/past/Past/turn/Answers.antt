use Rattle.std.proofs.Common.{◌∙◌, ap}
use Rattle.up_model.specs.Queue.{queue}
use Rattle.up_ledger.specs.Eventing.{place_of}
use Rattle.up_book.specs.Turning.{turn_at}
use Rattle.up_ledger.proofs.Turning.{turn-known}
use Rattle.up_ledger.proofs.past.Past.turn.Goals as goal

pub returns : goal.returns
returns c config c' f =
    ap (turn_at (place_of c.args.self.now.events (queue c'))) c.next_turn.ensures.turn ∙ turn-known c.args.self.now config c' f c.next_turn.ensures.distinct
