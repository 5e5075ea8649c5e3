-- The event of a turn.
use Rattle.std.specs.Prelude.{Bool, true, false, Option, None, Some, option_map}
use Rattle.up_event.specs.declared.live.TurnKind.{TurnKind}
use Rattle.up_event.specs.declared.live.TurnKind.TheVariants.{Handle, Finish}
use Rattle.up_model.specs.declared.event_id.EventId.{EventId}
use Rattle.up_model.specs.Queue.{Live, live_at}
use Rattle.up_book.specs.Views.{Places}

abbrev pub is_finish : TurnKind → Bool
is_finish Handle = false
is_finish Finish = true

-- the turn of an id, by where its event was queued
abbrev pub turn_at : Places → Option (EventId × TurnKind) → Option (Option Live)
turn_at places None = None
turn_at places (Some turn) = Some (option_map (λ place. live_at place (is_finish turn.1)) (places turn.0))
