-- The first frame of some bytes, and the frames of all of them.
use Rattle.std.proofs.Common.{◌≡◌, ◌<◌, ◌≤◌, ◌+◌, ℕ, suc, List, [], ◌∷◌, ◌++◌, length, get_or, Some, None, sym, ap, ◌∙◌, subst, length-append, arith}
use Rattle.std.specs.List.{flat_map, AllByRecursion}
use Rattle.std.proofs.lemmas.Option.{none-some}
use Rattle.std.proofs.lemmas.List.{append_assoc, append-nil}
use Rattle.std.proofs.lemmas.Grind.{flat_map-append}
use Rattle.byteorder.specs.Endian.{big_bytes}
use Rattle.up_model.specs.Requests.{RequestValue}
use Rattle.up_wire.specs.declared.fault.FrameFault.TheVariants.{Malformed}
use Rattle.up_model.specs.Values.{Bytes}
use Rattle.up_wire.specs.Frames.{max_payload, frame, payload_of, request_frame, IsSendable, IsFaulty}
use Rattle.up_wire.specs.Octets.{AreOctets}
use Rattle.up_wire.specs.Fields.{request_in, Refuses}
use Rattle.up_wire.specs.Feeding.{Begins, Stops}
use Rattle.up_wire.specs.declared.fault.WireFault.{WireFault}
use Rattle.up_wire.specs.declared.fault.WireFault.TheVariants.{FrameTooLarge, BadFrame, BadWord, Memory}
use Rattle.up_wire.proofs.Payloads.{request_takes, request_again}

pub octets_from : (bytes : Bytes) → ((i : ℕ) → get_or bytes i 0 < 256) → AreOctets bytes
octets_from [] each = tt
octets_from (byte ∷ bytes) each = (each 0, octets_from bytes (λ i. each (suc i)))

-- a payload that says nothing is no request's
pub malformed : (bytes payload more : Bytes) → length payload ≤ max_payload → bytes ≡ frame payload ++ more → request_in payload ≡ None → IsFaulty Malformed bytes
malformed bytes payload more fits whole nothing = (payload, more, fits, whole, λ request sendable same. none-some request (sym nothing ∙ (ap request_in (sym same) ∙ request_again request sendable)))

-- a payload that says something is a request's
pub sendable : (bytes payload more : Bytes) (request : RequestValue) → AreOctets payload → length payload ≤ max_payload → bytes ≡ frame payload ++ more → request_in payload ≡ Some request → IsSendable request × (bytes ≡ request_frame request ++ more)
unfolding request_frame
sendable bytes payload more request are fits whole read =
    let its = request_takes payload request are read in
    (record { sound = its.sound; bindings = its.bindings; texts = its.texts; fits = rw (← its.whole) fits }, whole ∙ ap (λ x. frame x ++ more) its.whole)

octets_left : (front after : Bytes) → AreOctets (front ++ after) → AreOctets front
octets_left [] after are = tt
octets_left (byte ∷ front) after are = (are.0, octets_left front after are.1)

octets_right : (front after : Bytes) → AreOctets (front ++ after) → AreOctets after
octets_right [] after are = are
octets_right (byte ∷ front) after are = octets_right front after are.1

-- a payload's bytes are bytes
pub octets_inside : (bytes payload more : Bytes) → ((i : ℕ) → get_or bytes i 0 < 256) → bytes ≡ frame payload ++ more → AreOctets payload
octets_inside bytes payload more each whole =
    let all : AreOctets (frame payload ++ more) = subst (λ x. AreOctets x) whole (octets_from bytes each) in
    octets_right (big_bytes 4 (length payload)) payload (octets_left (frame payload) more all)

-- what a refused payload says of the bytes
pub begins : (fault : WireFault) (bytes payload more : Bytes) → length payload ≤ max_payload → bytes ≡ frame payload ++ more → Refuses fault (request_in payload) → Begins fault bytes
begins FrameTooLarge bytes payload more fits whole h = absurd h
begins BadFrame bytes payload more fits whole h = malformed bytes payload more fits whole h
begins BadWord bytes payload more fits whole h = absurd h
begins Memory bytes payload more fits whole h = tt

-- the frame after the whole good ones
pub stops : (fault : WireFault) (bytes : Bytes) (requests : List RequestValue) (rest : Bytes) → AllByRecursion IsSendable requests → bytes ≡ flat_map request_frame requests ++ rest → Begins fault rest → Stops fault bytes
stops FrameTooLarge bytes requests rest each whole h = (requests, rest, each, whole, h)
stops BadFrame bytes requests rest each whole h = (requests, rest, each, whole, h)
stops BadWord bytes requests rest each whole h = absurd h
stops Memory bytes requests rest each whole h = tt

-- one frame more
pub one_more : (bytes : Bytes) (requests : List RequestValue) (rest : Bytes) (request : RequestValue) (after : Bytes) → bytes ≡ flat_map request_frame requests ++ rest → rest ≡ request_frame request ++ after → bytes ≡ flat_map request_frame (requests ++ request ∷ []) ++ after
one_more bytes requests rest request after whole first =
    let last : flat_map request_frame (requests ++ request ∷ []) ≡ flat_map request_frame requests ++ request_frame request = flat_map-append request_frame requests (request ∷ []) ∙ ap (λ x. flat_map request_frame requests ++ x) (append-nil (request_frame request)) in
    whole ∙ (ap (λ x. flat_map request_frame requests ++ x) first ∙ (sym (append_assoc (flat_map request_frame requests) (request_frame request) after) ∙ ap (λ x. x ++ after) (sym last)))

-- a frame takes bytes away
pub shorter : (rest : Bytes) (request : RequestValue) (after : Bytes) → rest ≡ request_frame request ++ after → length after < length rest
unfolding request_frame
shorter rest request after first =
    let size : length (frame (payload_of request) ++ after) ≡ length (frame (payload_of request)) + length after = length-append (frame (payload_of request)) after in
    rw first (omega (arith, size))
