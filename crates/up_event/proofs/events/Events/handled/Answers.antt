use Rattle.std.proofs.Common.{refl}
use Rattle.up_event.specs.LiveEvents.{as_handled}
use Rattle.up_event.proofs.NextTurn.{handled-idle, found-beside, found-since, live-changed}
use Rattle.up_event.proofs.events.Events.handled.Goals as goal

pub turn_since-self-inside-requires : goal.turn_since-self-inside-requires
turn_since-self-inside-requires c = rw (c.handled.ensures.changed, c.self.view_is) (live-changed c.args.id as_handled c.args.self.now (λ _. refl) c.requires)

pub invariant_of-self : goal.invariant_of-self
invariant_of-self c = (
  found-since c.args.id as_handled _ _ _ _ _ (λ _. refl) c.handled.ensures.changed c.self.invariant.0 c.is_turn_of.ensures c.if-is_turn_of.true c.turn_since-self-inside.ensures,
  c.handled.ensures.distinct,
)

pub invariant_of-self-else-is_turn_of : goal.invariant_of-self-else-is_turn_of
invariant_of-self-else-is_turn_of c =
    (found-beside c.args.id as_handled _ _ _ _ handled-idle c.handled.ensures.changed c.self.invariant.0 c.is_turn_of.ensures c.if-is_turn_of.false, c.handled.ensures.distinct)
