-- What is known of each instance, and what its moments make of it.
use Rattle.std.specs.Prelude.{ℕ, Bool, true, false, ◌&&◌, not, List, [], ◌∷◌, Option, None, Some, length, map, if◌then◌else◌, unwrap_or, String, string_bytes}
use Rattle.std.specs.Str.{bytes_eq}
use Rattle.up_value.specs.Values.{Bytes}
use Rattle.up_model.specs.declared.state.State.{State}
use Rattle.up_model.specs.declared.state.State.TheVariants as state
use Rattle.up_model.specs.Predicates.{is_waiting}
use Rattle.up_chart.specs.declared.moment.Moment.{Moment}
use Rattle.up_chart.specs.declared.moment.Sign.{Sign}
use Rattle.up_chart.specs.declared.moment.Sign.TheVariants.{Enters, StartedBy, ByClient, Fails, Signal, Comes}
use Rattle.up_chart.specs.declared.row.Came.{Came}
use Rattle.up_chart.specs.declared.row.Row.{Row}

-- an instance of which nothing was seen yet
abbrev pub new_row : (place time : ℕ) → Row
new_row place time = record { place = place; state = state.Waiting; since = time; told = false; asked = false; start_began = None; life_began = None; events_came = None }

-- main lives, and nobody has asked for its end
abbrev pub is_up : State → Bool
is_up state.Spawned = true
is_up state.PostStart = true
is_up state.Running = true
is_up other = false

-- when a start began that isn't over: an instance that runs, or is stopped, starts no more
abbrev pub start_began_after : State → ℕ → Option ℕ → Option ℕ
start_began_after state.Starting time start_began = Some time
start_began_after state.PreStart time start_began = start_began
start_began_after state.Spawned time start_began = start_began
start_began_after state.PostStart time start_began = start_began
start_began_after other time start_began = None

-- when the life of an instance began
abbrev pub life_began_after : State → ℕ → Option ℕ → Option ℕ
life_began_after state.Starting time life_began = Some time
life_began_after other time life_began = life_began

-- an instance that is told which events started it, in a life that began then
abbrev pub with_events : Row → (life_began : Option ℕ) → Row
with_events row None = record row { told = true }
with_events row (Some life_began) = record row { told = true; events_came = Some life_began }

-- what is known of an instance after a sign of it; who started it is told once for each life
abbrev pub next_row : ℕ → Row → Sign → Row
next_row time row (Enters to) = record {
  place = row.place;
  state = to;
  since = time;
  told = row.told && not (is_waiting to);
  asked = row.asked && not (is_waiting to);
  start_began = start_began_after to time row.start_began;
  life_began = life_began_after to time row.life_began;
  events_came = row.events_came;
}
next_row time row (StartedBy events source) = if row.told then row else with_events row row.life_began
next_row time row ByClient = record row { asked = true }
next_row time row Fails = row
next_row time row (Signal signal) = row
next_row time row Comes = row

-- what is kept by names, in the order in which they were seen first
abbrev pub entry_of : {V : Type 0} → Bytes → List (Bytes × V) → Option V
entry_of name [] = None
entry_of name (entry ∷ entries) = if bytes_eq name entry.0 then Some entry.1 else entry_of name entries

-- one that is there keeps its place, and a new one goes last
abbrev pub set_entry : {V : Type 0} → Bytes → V → List (Bytes × V) → List (Bytes × V)
set_entry name value [] = (name, value) ∷ []
set_entry name value (other ∷ entries) =
    if bytes_eq name other.0 then (other.0, value) ∷ entries else other ∷ set_entry name value entries

-- the entries that a map has
abbrev pub named : {A V : Type 0} → String A × V → Bytes × V
named entry = (string_bytes entry.0, entry.1)

abbrev pub all_named : {A V : Type 0} → List (String A × V) → List (Bytes × V)
all_named entries = map named entries

-- instances by their names
abbrev pub Named : Type 0
Named = List (Bytes × Row)

-- what is known of the instance of a moment before it
abbrev pub row_for : Named → Moment → Row
row_for rows seen = unwrap_or (entry_of seen.name rows) (new_row (length rows) seen.time)

abbrev pub rows_by : Named → Moment → Sign → Named
rows_by rows seen Comes = rows
rows_by rows seen sign = set_entry seen.name (next_row seen.time (row_for rows seen) sign) rows

-- the instances after a moment: an event that comes is none
unfoldable pub rows_after : Named → Moment → Named
rows_after rows seen = rows_by rows seen seen.sign

-- the instances after moments
abbrev pub all_rows : Named → List Moment → Named
all_rows rows [] = rows
all_rows rows (seen ∷ moments) = all_rows (rows_after rows seen) moments

-- when each event came
abbrev pub Times : Type 0
Times = List (Bytes × Came)

-- an event comes once more
abbrev pub came_again : ℕ → Option Came → Came
came_again time None = record { last = time; before = None }
came_again time (Some came) = record { last = time; before = Some came.last }

abbrev pub times_by : Times → Moment → Sign → Times
times_by times seen Comes = set_entry seen.name (came_again seen.time (entry_of seen.name times)) times
times_by times seen other = times

-- the times after a moment
unfoldable pub times_after : Times → Moment → Times
times_after times seen = times_by times seen seen.sign
