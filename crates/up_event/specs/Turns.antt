-- Which event a turn is for. No public clause cites this module.
use Rattle.std.specs.Prelude.{◌==◌, Bool, false, Option, None, Some, is_some}
use Rattle.up_event.specs.declared.live.LiveEvent.{LiveEvent}
use Rattle.up_event.specs.declared.live.TurnKind.{TurnKind}
use Rattle.up_event.specs.LiveEvents.{turn_of}
use Rattle.up_model.specs.declared.event_id.EventId.{EventId}

abbrev pub is_turn_of : EventId → Option (EventId × TurnKind) → Bool
is_turn_of id None = false
is_turn_of id (Some turn) = turn.0.key == id.key

-- whether a turn is due for an event, if there is one
abbrev pub has_turn : Option LiveEvent → Bool
has_turn None = false
has_turn (Some live) = is_some (turn_of live)
