use Rattle.std.proofs.Common.{◌∙◌, ap}
use Rattle.up_event.specs.LiveEvents.{next_turn}
use Rattle.up_event.proofs.Search.{after-node}
use Rattle.up_event.proofs.Steps.{has_key}
use Rattle.up_event.proofs.queue.Queue.turn_after.Goals as goal

pub index-requires : goal.index-requires
index-requires c = has_key _ _ _ _ c.args.id (record { invariant = c.self.invariant; view_is = c.self.view_is }) c.requires

pub turn_from-requires : goal.turn_from-requires
turn_from-requires c = (after-node _ _ _ _ c.args.id _ (record { invariant = c.self.invariant; view_is = c.self.view_is }) c.requires c.index.ensures).starts

pub returns : goal.returns
returns c =
    c.turn_from.ensures
    ∙ ap next_turn (after-node _ _ _ _ c.args.id _ (record { invariant = c.self.invariant; view_is = c.self.view_is }) c.requires c.index.ensures).are
