use Rattle.std.proofs.Common.{◌≡◌, ◌∙◌, refl, sym, Option, None, Some}
use Rattle.std.specs.Option.{option_or}
use Rattle.up_event.specs.declared.live.TurnKind.{TurnKind}
use Rattle.up_event.specs.LiveEvents.{new_live, next_turn, or_later, turn_of}
use Rattle.up_event.proofs.NextTurn.{pushed}
use Rattle.up_event.proofs.events.Events.push.Goals as goal
use Rattle.up_model.specs.declared.event_id.EventId.{EventId}

is-later : (now later : Option (EventId × TurnKind)) → option_or now later ≡ or_later now later
is-later None later = refl
is-later (Some turn) later = refl

pub invariant_of-self-2 : goal.invariant_of-self-2
invariant_of-self-2 c =
    let live = new_live c.in_ok-id.id c.args.event c.args.waiter in
    let due : or_later c.self.inside.next (turn_of live) ≡ next_turn c.push.new.self =
    rw (c.self.invariant.0, c.in_ok-id.ensures.pushed, c.self.view_is) (sym (pushed c.args.self.now live)) in
    (c.or-self-inside.ensures ∙ is-later c.self.inside.next (turn_of live) ∙ due, c.in_ok-id.ensures.distinct)
