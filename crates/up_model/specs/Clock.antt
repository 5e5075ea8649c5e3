-- The clock, and what depends on it: how often main may be respawned, and when it is killed (init(5), "respawn limit" and "kill
-- timeout"). The clock reads milliseconds, limits and timeouts count seconds.
use Rattle.std.specs.Prelude.{ℕ, ◌+◌, ◌-◌, ◌*◌, nat_le, nat_lt, Bool, true, false, ◌&&◌, ◌||◌, ◌==◌, List, [], ◌∷◌, ◌++◌, Option, None, Some, if◌then◌else◌}
use Rattle.up_conf.specs.declared.job.JobDef.{JobDef}
use Rattle.up_stanza.specs.declared.limit.Limit.{Limit}
use Rattle.up_stanza.specs.declared.process.Process.TheVariants.{Main}
use Rattle.up_model.specs.declared.input.Input.TheVariants as input
use Rattle.up_model.specs.declared.state.State.{State}
use Rattle.up_model.specs.declared.state.State.TheVariants as state
use Rattle.up_model.specs.Chronicle.{Chronicle, Entry, Given, Respawned, Entered, Signalled}
use Rattle.up_model.specs.Instances.{Instance, instances_of}
use Rattle.up_model.specs.Readings.{state_of, lives}
use Rattle.up_model.specs.Predicates.{entries_if}
use Rattle.up_model.specs.Values.{Bytes}

-- what the clock reads: the greatest reading so far, and 0 before the first
abbrev pub now : Chronicle → ℕ
now [] = 0
now (Given (input.Clock reading) ∷ c) = if nat_lt (now c) reading then reading else now c
now (entry ∷ c) = now c

abbrev pub milliseconds : (seconds : ℕ) → ℕ
milliseconds seconds = seconds * 1000

-- how often an instance was respawned less than a span ago
abbrev pub respawns : (instance : ℕ) → (today span : ℕ) → Chronicle → ℕ
respawns instance today span [] = 0
respawns instance today span (Respawned other moment ∷ c) =
    if (other == instance) && nat_lt (today - moment) span then respawns instance today span c + 1
    else respawns instance today span c
respawns instance today span (entry ∷ c) = respawns instance today span c

-- a limit of which one number is 0 is none
abbrev pub is_unlimited : Limit → Bool
is_unlimited limit = (limit.count == 0) || (limit.interval == 0)

-- whether a limit allows one respawn more: fewer than its count lie in the window that slides with the clock
abbrev pub may_respawn : Limit → ℕ → Chronicle → Bool
may_respawn limit instance c =
    is_unlimited limit || nat_lt (respawns instance (now c) (milliseconds limit.interval) c) limit.count

-- what the clock read when main was last sent a signal since the last state was entered, until the timer has sent KILL. In killed
-- that is the signal on entering it: a client's reload signals in running alone.
abbrev pub kill_moment : ℕ → Chronicle → Option ℕ
kill_moment instance [] = None
kill_moment instance (Entered other entered ∷ c) = if other == instance then None else kill_moment instance c
kill_moment instance (Signalled other signal true ∷ c) =
    if other == instance then None else kill_moment instance c
kill_moment instance (Signalled other signal false ∷ c) =
    if other == instance then Some (now c) else kill_moment instance c
kill_moment instance (entry ∷ c) = kill_moment instance c

-- whether so much time has passed since a moment
abbrev pub has_passed : Option ℕ → (today span : ℕ) → Bool
has_passed None today span = false
has_passed (Some moment) today span = nat_le span (today - moment)

abbrev pub is_killed : State → Bool
is_killed state.Killed = true
is_killed other = false

-- whether an instance is in killed and its main process lives
abbrev pub is_dying : ℕ → Chronicle → Bool
is_dying instance c = is_killed (state_of instance c) && lives instance Main c

-- whether the timer is to kill main of an instance
abbrev pub kill_due : JobDef → ℕ → Chronicle → Bool
kill_due job instance c = is_dying instance c
    && has_passed (kill_moment instance c) (now c) (milliseconds job.kill_timeout)

-- the instances of which that is so by their files, in order
abbrev pub overdue : List Instance → Chronicle → List ℕ
overdue [] c = []
overdue (instance ∷ instances) c =
    entries_if (kill_due instance.file instance.place c) (instance.place ∷ []) ++ overdue instances c

-- those of the jobs of these names
abbrev pub all_overdue : (names : List Bytes) → Chronicle → List ℕ
all_overdue [] c = []
all_overdue (name ∷ names) c = overdue (instances_of name c) c ++ all_overdue names c

-- the signal that no process can pass over (signal(7))
abbrev pub kill : ℕ
kill = 9

-- main of each of these is sent KILL by the timer, in order
abbrev pub killing : List ℕ → List Entry
killing [] = []
killing (instance ∷ instances) = killing instances ++ Signalled instance kill true ∷ []
