-- The events that are left, one on.
use Rattle.std.proofs.Common.{◌≡◌, ℕ, suc, ◌+◌, ◌<◌, List, ◌∷◌, Bor, Option, length, drop, get_or, map, sym, ap, add-one, drop-cons}
use Rattle.up_model.specs.declared.event_id.EventId.{EventId}
use Rattle.up_cascade.proofs.EventKeys.{KeyThere}
use Rattle.up_model.specs.declared.event.Event.{Event}
use Rattle.up_model.specs.Chronicle.{Chronicle}
use Rattle.up_model.specs.Events.{events_at, with_event, with_export, with_exports}
use Rattle.up_model.specs.Values.{Bytes, Bindings}
use Rattle.up_text.specs.Bindings.{value_of}
use Rattle.up_model.specs.Readings.{event_at}

pub events_left : (events : List (Bor Event)) (i : ℕ) (d : Bor Event) → i < length events
    → map (λ event. event.now) (drop i events) ≡ (get_or events i d).now ∷ map (λ event. event.now) (drop (i + 1) events)
events_left events i d within =
    let one : drop i events ≡ get_or events i d ∷ drop (i + 1) events = rw add-one (drop-cons events i d within) in
    ap (map (λ event. event.now)) one

-- the events at the places that are left, one on
pub key_events : (places : EventId → Option ℕ) (key : EventId) (events : List ℕ) (n : ℕ) (c : Chronicle) (found : Option Event)
    → (there : KeyThere places key events n) → found ≡ event_at there.place c → with_event found (events_at (drop (n + 1) events) c) ≡ events_at (drop n events) c
key_events places key events n c found there is =
    let first : events_at (drop n events) c ≡ with_event (event_at there.place c) (events_at (drop (suc n) events) c) = ap (λ left. events_at left c) there.rest in
    rw (add-one, is) (sym first)

-- the exported keys from one on
pub exports_left : (environment : Bindings) (keys : List Bytes) (i : ℕ) (d : Bytes) (vars : Bindings) → i < length keys
    → with_exports environment (drop i keys) vars ≡ with_exports environment (drop (i + 1) keys) (with_export (get_or keys i d) (value_of (get_or keys i d) environment) vars)
exports_left environment keys i d vars within =
    let one : drop i keys ≡ get_or keys i d ∷ drop (i + 1) keys = rw add-one (drop-cons keys i d within) in
    ap (λ left. with_exports environment left vars) one
