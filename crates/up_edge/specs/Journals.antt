-- What a contract sees of a journal.
use Rattle.std.specs.Prelude.{ℕ, ◌-◌, ◌+◌, ◌<◌, length, vec_len, vec_capacity}
use Rattle.up_edge.specs.Calls.{Calls}
use Rattle.up_edge.specs.declared.journal.Journal.{Journal}

-- the calls that it tells of
abbrev pub calls_of : {T : Type 0} → Journal T → Calls T
calls_of journal = record {
  entries = journal.entries.items;
  made = journal.cleared + length journal.entries.items;
  faults = journal.faults;
}

-- how many entries more have room
abbrev pub room : {T : Type 0} → Journal T → ℕ
room journal = vec_capacity journal.entries - vec_len journal.entries

-- there is room for one entry more
abbrev pub HasRoom : {T : Type 0} → Journal T → Type 0
HasRoom journal = vec_len journal.entries < vec_capacity journal.entries
