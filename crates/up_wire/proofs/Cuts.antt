-- Bytes are frames in one way.
use Rattle.std.proofs.Common.{◌≡◌, ◌<◌, ◌≤◌, ◌+◌, ◌||◌, ◌&&◌, nat_le, nat_lt, ℕ, true, List, [], ◌∷◌, ◌++◌, length, take, drop, refl, sym, ap, ◌∙◌, length-append, arith}
use Rattle.std.specs.List.{flat_map, AllByRecursion}
use Rattle.std.proofs.lemmas.Bool.Decides.{nat_tests}
use Rattle.std.proofs.lemmas.Grind.{flat_map-append}
use Rattle.std.proofs.lemmas.List.{append_assoc, take_at, drop_at}
use Rattle.std.proofs.lemmas.Option.{cond_some}
use Rattle.byteorder.specs.Endian.{big_number}
use Rattle.up_model.specs.Requests.{RequestValue}
use Rattle.up_wire.specs.declared.fault.FrameFault.{FrameFault}
use Rattle.up_wire.specs.declared.fault.FrameFault.TheVariants.{TooLarge, Malformed}
use Rattle.up_model.specs.Values.{Bytes}
use Rattle.up_wire.specs.Frames.{max_payload, frame, payload_of, request_frame, IsSendable, IsFaulty, Frames, is_partial}
use Rattle.up_wire.specs.Fields.{request_in}
use Rattle.up_wire.proofs.Numbers.{length_again}
use Rattle.up_wire.proofs.Payloads.{request_again}

-- the length that a frame says
says : (payload after : Bytes) → length payload ≤ max_payload → big_number 4 (frame payload ++ after) ≡ length payload
says payload after fits = length_again (length payload) (payload ++ after) (omega (arith, fits))

-- two frames that begin the same bytes are one
frame_apart : (p q a b : Bytes) → length p ≤ max_payload → length q ≤ max_payload → frame p ++ a ≡ frame q ++ b → (p ≡ q) × (a ≡ b)
frame_apart p q a b fits fits_too h =
    let same : length p ≡ length q = sym (says p a fits) ∙ (ap (big_number 4) h ∙ says q b fits_too) in
    let tails : p ++ a ≡ q ++ b = ap (drop 4) h in (
      sym (take_at p a (length q) same) ∙ (ap (take (length q)) tails ∙ take_at q b (length q) refl),
      sym (drop_at p a (length q) same) ∙ (ap (drop (length q)) tails ∙ drop_at q b (length q) refl),
    )

whole_by : (size number : ℕ) → 4 + number ≤ size → (nat_lt size 4 || (nat_le number max_payload && nat_lt size (4 + number))) ≡ true → ⊥
whole_by size number long h = grind (arith, nat_tests)

-- what begins with a frame isn't partial
not_partial : (bytes payload after : Bytes) → length payload ≤ max_payload → bytes ≡ frame payload ++ after → is_partial bytes ≡ true → ⊥
not_partial bytes payload after fits whole partial =
    let number : big_number 4 bytes ≡ length payload = ap (big_number 4) whole ∙ says payload after fits in
    let size : length (payload ++ after) ≡ length payload + length after = length-append payload after in
    whole_by (length bytes) (big_number 4 bytes) (omega (arith, number, size, ap length whole)) partial

too_large_by : (size number : ℕ) → 4 ≤ size → max_payload < number → (nat_lt size 4 || (nat_le number max_payload && nat_lt size (4 + number))) ≡ true → ⊥
too_large_by size number long large h = grind (arith, nat_tests)

regrouped : (request : RequestValue) (requests : List RequestValue) (rest : Bytes) → flat_map request_frame (request ∷ requests) ++ rest ≡ request_frame request ++ (flat_map request_frame requests ++ rest)
regrouped request requests rest = append_assoc (request_frame request) (flat_map request_frame requests) rest

pub same_request : (r s : RequestValue) → IsSendable r → IsSendable s → payload_of r ≡ payload_of s → r ≡ s
same_request r s its its_too h = (cond_some true r s (sym (request_again r its) ∙ (ap request_in h ∙ request_again s its_too))).1

first_same : (r s : RequestValue) (a b : Bytes) → IsSendable r → IsSendable s → request_frame r ++ a ≡ request_frame s ++ b → (payload_of r ≡ payload_of s) × (a ≡ b)
unfolding request_frame
first_same r s a b its its_too h = frame_apart (payload_of r) (payload_of s) a b its.fits its_too.fits h

no_partial_request : (bytes : Bytes) (r : RequestValue) (a : Bytes) → IsSendable r → bytes ≡ request_frame r ++ a → is_partial bytes ≡ true → ⊥
unfolding request_frame
no_partial_request bytes r a its h partial = not_partial bytes (payload_of r) a its.fits h partial

cons_same : {x y : RequestValue} {xs ys : List RequestValue} → x ≡ y → xs ≡ ys → x ∷ xs ≡ y ∷ ys
cons_same p q = cc

-- the requests of some bytes, and the rest, are determined
pub same_readings : (requests others : List RequestValue) (rest left : Bytes) → AllByRecursion IsSendable requests → AllByRecursion IsSendable others → flat_map request_frame requests ++ rest ≡ flat_map request_frame others ++ left → is_partial rest ≡ true → is_partial left ≡ true → (requests ≡ others) × (rest ≡ left)
same_readings [] [] rest left each each_too h partial partial_too = (refl, h)
same_readings [] (s ∷ others) rest left each each_too h partial partial_too =
    absurd (no_partial_request rest s (flat_map request_frame others ++ left) each_too.0 (h ∙ regrouped s others left) partial)
same_readings (r ∷ requests) [] rest left each each_too h partial partial_too =
    absurd (no_partial_request left r (flat_map request_frame requests ++ rest) each.0 (sym h ∙ regrouped r requests rest) partial_too)
same_readings (r ∷ requests) (s ∷ others) rest left each each_too h partial partial_too =
    let first = first_same r s (flat_map request_frame requests ++ rest) (flat_map request_frame others ++ left) each.0 each_too.0 (sym (regrouped r requests rest) ∙ (h ∙ regrouped s others left)) in
    let others_same = same_readings requests others rest left each.1 each_too.1 first.1 partial partial_too in
    (cons_same (same_request r s each.0 each_too.0 first.0) others_same.0, others_same.1)

partial_or_faulty : (fault : FrameFault) (rest left : Bytes) → rest ≡ left → is_partial rest ≡ true → IsFaulty fault left → ⊥
partial_or_faulty TooLarge rest left h partial faulty = too_large_by (length rest) (big_number 4 rest) (omega (arith, ap length h, faulty.0)) (omega (arith, ap (big_number 4) h, faulty.1)) partial
partial_or_faulty Malformed rest left h partial (payload, more, fits, whole, none) = not_partial rest payload more fits (h ∙ whole) partial

good_or_faulty : (fault : FrameFault) (left : Bytes) (r : RequestValue) (after : Bytes) → IsSendable r → left ≡ request_frame r ++ after → IsFaulty fault left → ⊥
unfolding request_frame
good_or_faulty TooLarge left r after its h faulty =
    let number : big_number 4 left ≡ length (payload_of r) = ap (big_number 4) h ∙ says (payload_of r) after its.fits in
    omega (arith, number, its.fits, faulty.1)
good_or_faulty Malformed left r after its h (payload, more, fits, whole, none) =
    none r its (frame_apart (payload_of r) payload after more its.fits fits (sym h ∙ whole)).0

-- bytes that are frames and a rest have no faulty frame
pub no_faults : (fault : FrameFault) (requests others : List RequestValue) (rest left : Bytes) → AllByRecursion IsSendable requests → AllByRecursion IsSendable others → flat_map request_frame requests ++ rest ≡ flat_map request_frame others ++ left → is_partial rest ≡ true → IsFaulty fault left → ⊥
no_faults fault [] [] rest left each each_too h partial faulty = partial_or_faulty fault rest left h partial faulty
no_faults fault [] (s ∷ others) rest left each each_too h partial faulty =
    no_partial_request rest s (flat_map request_frame others ++ left) each_too.0 (h ∙ regrouped s others left) partial
no_faults fault (r ∷ requests) [] rest left each each_too h partial faulty =
    good_or_faulty fault left r (flat_map request_frame requests ++ rest) each.0 (sym h ∙ regrouped r requests rest) faulty
no_faults fault (r ∷ requests) (s ∷ others) rest left each each_too h partial faulty =
    let first = first_same r s (flat_map request_frame requests ++ rest) (flat_map request_frame others ++ left) each.0 each_too.0 (sym (regrouped r requests rest) ∙ (h ∙ regrouped s others left)) in
    no_faults fault requests others rest left each.1 each_too.1 first.1 partial faulty

all_append : (first second : List RequestValue) → AllByRecursion IsSendable first → AllByRecursion IsSendable second → AllByRecursion IsSendable (first ++ second)
all_append [] second each each_too = each_too
all_append (r ∷ first) second each each_too = (each.0, all_append first second each.1 each_too)

-- the frames of two pieces are those of their sum
pub frames_append : (bytes more middle rest : Bytes) (first second : List RequestValue) → Frames bytes first middle → Frames (middle ++ more) second rest → Frames (bytes ++ more) (first ++ second) rest
frames_append bytes more middle rest first second h k = record {
  each = all_append first second h.each k.each;
  whole =
      ap (λ x. x ++ more) h.whole
      ∙ (append_assoc (flat_map request_frame first) middle more
      ∙ (ap (λ x. flat_map request_frame first ++ x) k.whole
      ∙ (sym (append_assoc (flat_map request_frame first) (flat_map request_frame second) rest)
      ∙ ap (λ x. x ++ rest) (sym (flat_map-append request_frame first second)))));
  partial = k.partial;
}
