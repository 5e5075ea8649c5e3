-- The event of a turn.
use Rattle.std.proofs.Common.{◌≡◌, ℕ, Bool, true, false, Option, None, Some, is_some, option_map, refl}
use Rattle.up_model.specs.declared.event_id.EventId.{EventId}
use Rattle.up_event.specs.declared.live.TurnKind.{TurnKind}
use Rattle.up_book.specs.Turning.{is_finish, turn_at}
use Rattle.up_model.specs.Chronicle.{Chronicle}
use Rattle.up_model.specs.Configuration.{Configuration}
use Rattle.up_model.specs.Due.{turn_event}
use Rattle.up_model.specs.Held.{is_held}
use Rattle.up_model.specs.Queue as model
use Rattle.up_model.proofs.QueueLaws.{turn_event-held}

-- a turn finishes an event that nobody holds
pub free_then : (config : Configuration) (c : Chronicle) (e : ℕ) (handled : Bool) → turn_event config (model.queue c) c ≡ Some (model.live_at e handled) → handled ≡ true → is_held config e c ≡ false
free_then config c e handled found is = turn_event-held config (model.queue c) c (model.live_at e handled) found is

-- what the id of a turn's event stands for
pub turn_found : (places : EventId → Option ℕ) (turn : EventId × TurnKind) (found : Option model.Live) → turn_at places (Some turn) ≡ option_map (λ (its : model.Live). Some its) found
    → (e : ℕ) × ((places turn.0 ≡ Some e) × (found ≡ Some (model.live_at e (is_finish turn.1))))
turn_found places turn None h = absurd cc
turn_found places turn (Some its) h = by_place (places turn.0) refl h
  where
    by_place : (o : Option ℕ) → places turn.0 ≡ o → Some (option_map (λ place. model.live_at place (is_finish turn.1)) o) ≡ Some (Some its)
        → (e : ℕ) × ((places turn.0 ≡ Some e) × (Some its ≡ Some (model.live_at e (is_finish turn.1))))
    by_place None is h = absurd cc
    by_place (Some e) is h = (e, (is, cc))

pub turn_none : (places : EventId → Option ℕ) (found : Option model.Live) → turn_at places None ≡ option_map (λ (its : model.Live). Some its) found → found ≡ None
turn_none places None h = refl
turn_none places (Some its) h = absurd cc

-- a turn is found where the model has one
pub turn_told : (places : EventId → Option ℕ) (turn : Option (EventId × TurnKind)) (found : Option model.Live) → turn_at places turn ≡ option_map (λ (its : model.Live). Some its) found → is_some turn ≡ is_some found
turn_told places None None h = refl
turn_told places None (Some its) h = absurd cc
turn_told places (Some turn) None h = absurd cc
turn_told places (Some turn) (Some its) h = refl
