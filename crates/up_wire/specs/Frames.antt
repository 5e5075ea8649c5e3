-- The bytes by which a client asks. A frame is the length of its payload, four bytes with the highest first, and its payload.
use Rattle.std.specs.Prelude.{◌≡◌, ◌≤◌, ◌<◌, ◌+◌, ◌&&◌, ◌||◌, ℕ, Bool, true, false, nat_le, nat_lt, List, ◌∷◌, ◌++◌, length}
use Rattle.std.specs.List.{list_all, flat_map, AllByRecursion}
use Rattle.std.specs.Str.{is_utf8}
use Rattle.byteorder.specs.Endian.{big_bytes, big_number}
use Rattle.up_text.specs.Bindings.{are_bindings}
use Rattle.up_model.specs.Values.{Bytes, Bindings}
use Rattle.up_model.specs.Requests.{RequestValue, is_request}
use Rattle.up_model.specs.declared.request.Command.{Command}
use Rattle.up_model.specs.declared.request.Command.TheVariants as command
use Rattle.up_wire.specs.declared.fault.FrameFault.{FrameFault}
use Rattle.up_wire.specs.declared.fault.FrameFault.TheVariants.{TooLarge, Malformed}

-- the greatest length of a payload
abbrev pub max_payload : ℕ
max_payload = 65536

abbrev pub frame : Bytes → Bytes
frame payload = big_bytes 4 (length payload) ++ payload

-- a short text: its length, two bytes, and the text
abbrev pub short_text : Bytes → Bytes
short_text text = big_bytes 2 (length text) ++ text

-- the byte of a command
abbrev pub command_number : Command → ℕ
command_number command.Start = 1
command_number command.Stop = 2
command_number command.Restart = 3
command_number command.Status = 4
command_number command.List = 5
command_number command.Emit = 6
command_number command.Reload = 7
command_number command.ReloadConfiguration = 8
command_number command.Version = 9

-- the byte that says whether the client waits
abbrev pub wait_number : Bool → ℕ
wait_number true = 0
wait_number false = 1

abbrev pub variable : Bytes × Bytes → Bytes
variable binding = short_text binding.0 ++ short_text binding.1

-- what a frame has of a request
unfoldable pub payload_of : RequestValue → Bytes
payload_of request =
    command_number request.command ∷ wait_number request.wait ∷ short_text request.name
    ++ big_bytes 2 (length request.vars) ++ flat_map variable request.vars

unfoldable pub request_frame : RequestValue → Bytes
request_frame request = frame (payload_of request)

-- whether the texts of a request are UTF-8
abbrev pub are_texts : RequestValue → Bool
are_texts request = is_utf8 request.name
    && list_all (λ binding. is_utf8 binding.0 && is_utf8 binding.1) request.vars

-- a request that a frame can carry
pub record IsSendable (request : RequestValue) : Type 0 where
  pub sound : is_request request.command request.wait request.name request.vars ≡ true
  pub bindings : are_bindings request.vars ≡ true
  pub texts : are_texts request ≡ true
  pub fits : length (payload_of request) ≤ max_payload

-- whether more bytes must come before there is a whole frame, or a faulty one
abbrev pub is_partial : Bytes → Bool
is_partial bytes =
    nat_lt (length bytes) 4 || (nat_le (big_number 4 bytes) max_payload
    && nat_lt (length bytes) (4 + big_number 4 bytes))

-- the bytes are the frames of these requests, and then a rest that is no whole frame
pub record Frames (bytes : Bytes) (requests : List RequestValue) (rest : Bytes) : Type 0 where
  pub each : AllByRecursion IsSendable requests
  pub whole : bytes ≡ flat_map request_frame requests ++ rest
  pub partial : is_partial rest ≡ true

-- the bytes begin with a frame of this fault: one that says a length over the limit, or a whole one that no request has
abbrev pub IsFaulty : FrameFault → Bytes → Type 0
IsFaulty TooLarge bytes = (4 ≤ length bytes) × (max_payload < big_number 4 bytes)
IsFaulty Malformed bytes =
    (payload more : Bytes) × (length payload ≤ max_payload) × (bytes ≡ frame payload ++ more)
    × ((request : RequestValue) → IsSendable request → payload_of request ≡ payload → ⊥)

-- the bytes are the frames of requests, and then a frame of this fault
abbrev pub Breaks : FrameFault → Bytes → Type 0
Breaks fault bytes =
    (requests : List RequestValue) × (rest : Bytes) × AllByRecursion IsSendable requests
    × (bytes ≡ flat_map request_frame requests ++ rest) × IsFaulty fault rest
