-- What the whole book stands for.
use Rattle.std.specs.Prelude.{◌≡◌, ℕ, map, Option}
use Rattle.up_model.specs.declared.event_id.EventId.{EventId}
use Rattle.up_model.specs.Chronicle.{Chronicle}
use Rattle.up_model.specs.Clock as clock
use Rattle.up_model.specs.Configuration.{Configuration}
use Rattle.up_model.specs.Queue.{queue}
use Rattle.up_ledger.specs.declared.past.Past.{Past}
use Rattle.up_job.specs.declared.instance_key.InstanceKey.{InstanceKey}
use Rattle.up_ledger.specs.Eventing.{standing_of, standing_at, place_of, AreCounted}
use Rattle.up_book.specs.Keeps.{Keeps, place_at}
use Rattle.up_ledger.specs.Regular.{IsRegular}
use Rattle.up_ledger.specs.Remembering.{Remembered}

-- where the event of a key was queued
abbrev pub event_place : Past → Chronicle → EventId → Option ℕ
event_place book c id = place_of book.events (queue c) id

abbrev pub instance_place : Past → Chronicle → InstanceKey → Option ℕ
instance_place book c key = place_at book.instances c key

pub record Forgets (book : Past) (config : Configuration) (c : Chronicle) : Type 0 where
  pub lives : Keeps (place_of book.events (queue c)) book.instances config c
  pub remembered : Remembered (place_of book.events (queue c)) book.instances book.starts.items config c
  pub standings : map standing_of book.events ≡ map (standing_at c) (queue c)
  pub counted : AreCounted book.events book.instances book.starts.items
  pub regular : IsRegular config c
  pub reading : book.reading ≡ clock.now c
