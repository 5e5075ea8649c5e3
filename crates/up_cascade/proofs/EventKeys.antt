-- What the keys of events stand for.
use Rattle.std.proofs.Common.{◌≡◌, ℕ, zero, suc, ◌<◌, List, [], ◌∷◌, Option, Some, length, drop, get_or, map, refl, ap, arith}
use Rattle.up_model.specs.declared.event_id.EventId.{EventId}

-- the place of an event's key at an index, and those after it
pub record KeyThere (places : EventId → Option ℕ) (key : EventId) (events : List ℕ) (n : ℕ) : Type 0 where
  pub place : ℕ
  pub is : places key ≡ Some place
  pub rest : drop n events ≡ place ∷ drop (suc n) events

pub key_there : (places : EventId → Option ℕ) (keys : List EventId) (events : List ℕ) (n : ℕ) (d : EventId)
    → map places keys ≡ map Some events → n < length keys → KeyThere places (get_or keys n d) events n
key_there places [] events n d h within = absurd (omega arith)
key_there places (key ∷ keys) [] n d h within = absurd cc
key_there places (key ∷ keys) (event ∷ events) zero d h within = record { place = event; is = cc; rest = refl }
key_there places (key ∷ keys) (event ∷ events) (suc n) d h within =
    let there = key_there places keys events n d (cc) (omega arith) in
    record { place = there.place; is = there.is; rest = there.rest }

pub keys_length : (places : EventId → Option ℕ) (keys : List EventId) (events : List ℕ) → map places keys ≡ map Some events → length keys ≡ length events
keys_length places [] [] h = refl
keys_length places [] (event ∷ events) h = absurd cc
keys_length places (key ∷ keys) [] h = absurd cc
keys_length places (key ∷ keys) (event ∷ events) h = ap suc (keys_length places keys events (cc))
