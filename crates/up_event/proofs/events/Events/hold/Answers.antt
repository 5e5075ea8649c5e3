use Rattle.std.proofs.Common.{refl}
use Rattle.up_event.specs.LiveEvents.{with_hold}
use Rattle.up_event.proofs.NextTurn.{hold-idle, found-beside, found-since, live-changed}
use Rattle.up_event.proofs.Steps.{some_of}
use Rattle.up_event.proofs.events.Events.hold.Goals as goal

pub turn_since-self-inside-requires : goal.turn_since-self-inside-requires
turn_since-self-inside-requires c = rw (c.hold.ensures.changed, c.self.view_is) (live-changed c.args.id with_hold c.args.self.now (λ _. refl) (some_of _ _ c.requires))

pub invariant_of-self : goal.invariant_of-self
invariant_of-self c = (
  found-since c.args.id with_hold _ _ _ _ _ (λ _. refl) c.hold.ensures.changed c.self.invariant.0 c.is_turn_of.ensures c.if-is_turn_of.true c.turn_since-self-inside.ensures,
  c.hold.ensures.distinct,
)

pub invariant_of-self-else-is_turn_of : goal.invariant_of-self-else-is_turn_of
invariant_of-self-else-is_turn_of c =
    (found-beside c.args.id with_hold _ _ _ _ hold-idle c.hold.ensures.changed c.self.invariant.0 c.is_turn_of.ensures c.if-is_turn_of.false, c.hold.ensures.distinct)
