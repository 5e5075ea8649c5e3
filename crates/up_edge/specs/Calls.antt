-- What a host, a door or a source keeps of the calls that were made of it.
use Rattle.std.specs.Prelude.{◌≡◌, ℕ, ◌+◌, min, List, [], ◌∷◌, ◌++◌, Result, Ok, Err}

-- the greatest count, that of 64 bits
abbrev pub most_count : ℕ
most_count = 18446744073709551615

-- the record has an entry for each call that succeeded since it was last emptied; `made` counts all that ever succeeded, and `faults`
-- those that failed
pub record Calls (T : Type 0) : Type 0 where
  pub entries : List T
  pub made : ℕ
  pub faults : ℕ

-- no call was made
abbrev pub no_calls : {T : Type 0} → Calls T
no_calls = record { entries = []; made = 0; faults = 0 }

-- a count of faults with one more; at the greatest it stays
abbrev pub with_fault : ℕ → ℕ
with_fault faults = min (faults + 1) most_count

-- a call succeeded, with this entry
abbrev pub with_entry : {T : Type 0} → T → Calls T → Calls T
with_entry entry calls = record calls { entries = calls.entries ++ entry ∷ []; made = calls.made + 1 }

-- a call failed
abbrev pub with_failure : {T : Type 0} → Calls T → Calls T
with_failure calls = record calls { faults = with_fault calls.faults }

-- the record is emptied, and the calls that it told of still count
abbrev pub emptied : {T : Type 0} → Calls T → Calls T
emptied calls = record calls { entries = []; made = min calls.made most_count }

-- a call that succeeded is one entry, and one that failed one fault
abbrev pub Reports : {A E T : Type 0} → (A → T) → Calls T → Result A E → Calls T → Type 0
Reports entry before (Ok x) after = after ≡ with_entry (entry x) before
Reports entry before (Err _) after = after ≡ with_failure before
