-- What the timer has found.
use Rattle.std.specs.Prelude.{◌≡◌, ℕ, List, map, Some}
use Rattle.up_book.specs.Keys.{instance_place}
use Rattle.up_job.specs.declared.instance_key.InstanceKey.{InstanceKey}
use Rattle.up_model.specs.Chronicle.{Chronicle}
use Rattle.up_model.specs.Configuration.{Configuration}

-- these are the keys of the instances that were made at these places
abbrev pub AreKeysOf : Configuration → Chronicle → List InstanceKey → (places : List ℕ) → Type 0
AreKeysOf config c keys places = map (instance_place config c) keys ≡ map Some places
