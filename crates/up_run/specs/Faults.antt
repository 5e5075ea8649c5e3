-- What a round's inputs and the record of its host say of the host's calls that failed.
use Rattle.std.specs.Prelude.{ℕ, ◌==◌, zero, suc, Bool, true, false, ◌&&◌, ◌||◌, nat_lt, if◌then◌else◌, List, [], ◌++◌, codes, Some, None}
use Rattle.std.specs.Fmt.{decimal}
use Rattle.std.specs.List.{flat_map}
use Rattle.up_edge.specs.declared.door_call.DoorCall.{DoorCall}
use Rattle.up_edge.specs.declared.door_call.DoorCall.TheVariants as call
use Rattle.up_edge.specs.declared.happened.Happened.{Happened}
use Rattle.up_edge.specs.declared.happened.Happened.TheVariants.{Spawned, Polled, Signalled, Now}
use Rattle.up_model.specs.declared.input.Input.{Input}
use Rattle.up_model.specs.declared.input.Input.TheVariants as input
use Rattle.up_run.specs.declared.faults.HostFaults.{HostFaults}

-- the clock was read
abbrev pub is_reading : Happened → Bool
is_reading (Now reading) = true
is_reading (Spawned order pid) = false
is_reading (Polled found) = false
is_reading (Signalled who pid signal) = false

-- a look for ends that found none, with which a round ends to look
abbrev pub is_last_poll : Happened → Bool
is_last_poll (Polled None) = true
is_last_poll (Polled (Some end)) = false
is_last_poll (Spawned order pid) = false
is_last_poll (Signalled who pid signal) = false
is_last_poll (Now reading) = false

-- a start that failed
unfoldable pub is_refusal : Input → Bool
is_refusal (input.Refused who process) = true
is_refusal (input.Ended who process how) = false
is_refusal (input.Request id request) = false
is_refusal (input.Emit event) = false
is_refusal (input.Spawned who process pid) = false
is_refusal (input.Clock now) = false
is_refusal input.Turn = false
is_refusal (input.Load id loaded) = false

-- how many calls failed, if one did
abbrev pub number : Bool → ℕ
number failed = if failed then 1 else 0

-- some call of the host failed
abbrev pub are_some : HostFaults → Bool
are_some host = host.clock || host.poll || nat_lt 0 host.spawns || nat_lt 0 host.signals

-- a line so many times
abbrev pub repeated : ℕ → List ℕ → List ℕ
repeated zero line = []
repeated (suc count) line = repeated count line ++ line

-- the comment on a call that failed
unfoldable pub fault_line : List ℕ → List ℕ → List ℕ
fault_line whose call = codes "# " ++ whose ++ codes " fault: " ++ call ++ codes "\n"

-- the name of a door's call, or of the reason why the door refused one
abbrev pub call_name : DoorCall → List ℕ
call_name call.Accept = codes "accept"
call_name call.Read = codes "read"
call_name call.Write = codes "write"
call_name call.Close = codes "close"
call_name call.Silence = codes "silence"

-- the comment on a call of the door that failed
abbrev pub door_line : DoorCall → List ℕ
door_line call = fault_line (codes "door") (call_name call)

-- a comment on each call that failed in a round
unfoldable pub fault_lines : HostFaults → List DoorCall → (source : ℕ) → List ℕ
fault_lines host door source =
    repeated (number host.clock) (fault_line (codes "host") (codes "now"))
    ++ repeated (number host.poll) (fault_line (codes "host") (codes "poll"))
    ++ repeated host.spawns (fault_line (codes "host") (codes "spawn"))
    ++ repeated host.signals (fault_line (codes "host") (codes "signal"))
    ++ flat_map door_line door
    ++ repeated source (fault_line (codes "source") (codes "load"))

-- what is counted, and how many
unfoldable pub tally : List ℕ → ℕ → List ℕ
tally what count = what ++ decimal count

abbrev pub none_failed : ℕ → ℕ → ℕ → Bool
none_failed host door source = host == 0 && door == 0 && source == 0

-- the comment on how many calls failed in a run; nothing if none did
unfoldable pub fault_count : ℕ → ℕ → ℕ → List ℕ
fault_count host door source = if none_failed host door source then []
    else tally (codes "# host faults: ") host ++ tally (codes ", door faults: ") door
    ++ tally (codes ", source faults: ") source ++ codes "\n"
