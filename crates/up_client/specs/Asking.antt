-- What is sent, and what is heard.
use Rattle.std.specs.Prelude.{◌≡◌, ◌<◌, ◌++◌, ℕ, true, length, Option, None, Some, Result, Ok, Err, Vec, codes}
use Rattle.std.specs.Str.{is_utf8}
use Rattle.up_model.specs.Requests.{RequestValue}
use Rattle.up_model.specs.declared.request.Answer.{Answer}
use Rattle.up_wire.specs.declared.fault.WireFault.{WireFault}
use Rattle.up_wire.specs.declared.fault.WireFault.TheVariants.{FrameTooLarge, BadFrame, BadWord, Memory}
use Rattle.up_model.specs.Values.{Bytes}
use Rattle.up_wire.specs.Frames.{max_payload, payload_of, request_frame}
use Rattle.up_wire.specs.Answers.{answer_frames}

-- the frame of the request that words are; or why there is none
abbrev pub IsSent : {A : Type 0} → Result (Vec ℕ A) WireFault → Option RequestValue → Type 0
IsSent (Ok frame) wanted = (request : RequestValue) × (wanted ≡ Some request)
    × (frame.items ≡ request_frame request)
IsSent (Err FrameTooLarge) wanted = (request : RequestValue) × (wanted ≡ Some request)
    × (max_payload < length (payload_of request))
IsSent (Err BadFrame) wanted = ⊥
IsSent (Err BadWord) wanted = wanted ≡ None
IsSent (Err Memory) wanted = Unit {0}

-- the path of the socket (initctl(8), --socket and ENVIRONMENT): the option's, else that of the environment, else the default
abbrev pub socket_of : (option variable : Option Bytes) → Bytes
socket_of (Some path) variable = path
socket_of None (Some path) = path
socket_of None None = codes "/run/initd.socket"

-- the bytes begin with the frames of an answer
abbrev pub BeginsWith : Bytes → Answer → Type 0
BeginsWith bytes answer = (rest : Bytes) × (is_utf8 answer.text ≡ true)
    × (bytes ≡ answer_frames answer ++ rest)

-- what was made of bytes: an answer that they begin with, or none yet, and these bytes are left
abbrev pub Hears : Bytes → Bytes → Option Answer → Type 0
Hears bytes left None = bytes ≡ left
Hears bytes left (Some answer) = BeginsWith bytes answer
