-- The bytes by which a client is answered: frames whose payload is a byte and text. Full frames say that more follows, and the last one
-- whether the request succeeded.
use Rattle.std.specs.Prelude.{◌≡◌, ◌≤◌, ◌-◌, ◌*◌, ◌/◌, ◌==◌, ◌&&◌, ◌||◌, not, ℕ, zero, suc, Bool, true, false, List, [], ◌∷◌, ◌++◌, length, take, drop, Option, None, Some, option_map, Result, Ok, Err, if◌then◌else◌}
use Rattle.std.specs.List.{flat_map, AllByRecursion}
use Rattle.std.specs.Str.{is_utf8}
use Rattle.up_model.specs.declared.request.Answer.{Answer}
use Rattle.up_wire.specs.declared.answers.Ahead.{Ahead}
use Rattle.up_wire.specs.declared.answers.Ahead.TheVariants.{Open, Last}
use Rattle.up_wire.specs.declared.fault.FrameFault.{FrameFault}
use Rattle.up_wire.specs.declared.fault.FrameFault.TheVariants.{TooLarge, Malformed}
use Rattle.up_wire.specs.declared.fault.WireFault.{WireFault}
use Rattle.up_wire.specs.declared.fault.WireFault.TheVariants.{FrameTooLarge, BadFrame, BadWord, Memory}
use Rattle.up_model.specs.Values.{Bytes}
use Rattle.up_wire.specs.Frames.{max_payload, frame, is_partial, IsFaulty}

-- the text of a full frame
abbrev pub max_chunk : ℕ
max_chunk = 65535

abbrev pub chunk_frame : Bytes → Bytes
chunk_frame chunk = frame (2 ∷ chunk)

-- the full frames of the first chunks of a text
abbrev pub chunk_frames : ℕ → Bytes → Bytes
chunk_frames zero text = []
chunk_frames (suc count) text = chunk_frame (take max_chunk text) ++ chunk_frames count (drop max_chunk text)

-- how many full frames come before the last, which is empty for the empty text alone
abbrev pub full_frames : Bytes → ℕ
full_frames text = (length text - 1) / max_chunk

-- the byte of the last frame
abbrev pub verdict_number : Bool → ℕ
verdict_number true = 0
verdict_number false = 1

unfoldable pub frames_of : Bool → Bytes → Bytes
frames_of ok text = chunk_frames (full_frames text) text
    ++ frame (verdict_number ok ∷ drop (max_chunk * full_frames text) text)

abbrev pub answer_frames : Answer → Bytes
answer_frames answer = frames_of answer.ok answer.text

-- whether a payload is that of a full frame
abbrev pub is_chunk : Bytes → Bool
is_chunk [] = false
is_chunk (kind ∷ chunk) = (kind == 2) && (length chunk == max_chunk)

abbrev pub is_nothing : Bytes → Bool
is_nothing [] = true
is_nothing (byte ∷ bytes) = false

abbrev pub verdict_of : ℕ → Option Bool
verdict_of kind = if kind == 0 then Some true else (if kind == 1 then Some false else None)

abbrev pub with_text : Bytes → Bool → Answer
with_text text ok = record { ok = ok; text = text }

-- the answer of a text, if it is one
abbrev pub if_text_is : Bytes → ℕ → Option Answer
if_text_is text kind = if is_utf8 text then option_map (with_text text) (verdict_of kind) else None

-- the answer that ends with a payload, after the text of its full frames
abbrev pub last_in : Bytes → Bytes → Option Answer
last_in text [] = None
last_in text (kind ∷ last) =
    if is_nothing text || not (is_nothing last) then if_text_is (text ++ last) kind else None

-- full frames, and then these bytes
pub record Opens (bytes text tail : Bytes) : Type 0 where
  pub count : ℕ
  pub full : length text ≡ max_chunk * count
  pub whole : bytes ≡ chunk_frames count text ++ tail

-- full frames, and then no whole frame
abbrev pub IsOpen : Bytes → Type 0
IsOpen bytes = (text tail : Bytes) × Opens bytes text tail × (is_partial tail ≡ true)

-- full frames, and then one of this fault: a length over the limit, or a payload that neither goes on nor ends an answer
abbrev pub IsFaultyAnswer : FrameFault → Bytes → Type 0
IsFaultyAnswer TooLarge bytes = (text tail : Bytes) × Opens bytes text tail × IsFaulty TooLarge tail
IsFaultyAnswer Malformed bytes =
    (text payload more : Bytes) × Opens bytes text (frame payload ++ more) × (length payload ≤ max_payload)
    × (is_chunk payload ≡ false) × (last_in text payload ≡ None)

-- the bytes are the frames of these answers, and then a rest that is no whole answer
pub record AnswerFrames (bytes : Bytes) (answers : List Answer) (rest : Bytes) : Type 0 where
  pub each : AllByRecursion (λ answer. is_utf8 answer.text ≡ true) answers
  pub whole : bytes ≡ flat_map answer_frames answers ++ rest
  pub unfinished : IsOpen rest

-- the bytes are the frames of answers, and then one of this fault
abbrev pub AnswersBreak : FrameFault → Bytes → Type 0
AnswersBreak fault bytes =
    (answers : List Answer) × (rest : Bytes) × AllByRecursion (λ answer. is_utf8 answer.text ≡ true) answers
    × (bytes ≡ flat_map answer_frames answers ++ rest) × IsFaultyAnswer fault rest

-- a refusal whose cause is the first answer of the bytes
abbrev pub AnswerBegins : WireFault → Bytes → Type 0
AnswerBegins FrameTooLarge bytes = IsFaultyAnswer TooLarge bytes
AnswerBegins BadFrame bytes = IsFaultyAnswer Malformed bytes
AnswerBegins BadWord bytes = ⊥
AnswerBegins Memory bytes = Unit {0}

-- the same, if the cause is what comes after the whole good ones
abbrev pub AnswersStop : WireFault → Bytes → Type 0
AnswersStop FrameTooLarge bytes = AnswersBreak TooLarge bytes
AnswersStop BadFrame bytes = AnswersBreak Malformed bytes
AnswersStop BadWord bytes = ⊥
AnswersStop Memory bytes = Unit {0}

-- bytes that begin with the full frames of a text, and then a frame that isn't full, with this payload
abbrev pub EndsWith : Bytes → (text payload after : Bytes) → Type 0
EndsWith bytes text payload after =
    Opens bytes text (frame payload ++ after) × (length payload ≤ max_payload) × (is_chunk payload ≡ false)

-- what comes after the full frames of a text: no whole frame, or one that isn't full
abbrev pub LiesAhead : Bytes → Bytes → Result Ahead WireFault → Type 0
LiesAhead bytes text (Ok (Open rest)) = Opens bytes text rest.now × (is_partial rest.now ≡ true)
LiesAhead bytes text (Ok (Last payload after)) = EndsWith bytes text payload.now after.now
LiesAhead bytes text (Err fault) = AnswerBegins fault bytes

-- if no frame was taken, the bytes are what is left
abbrev pub KeepsWhole : Bytes → Result Ahead WireFault → Type 0
KeepsWhole bytes (Ok (Open rest)) = length bytes ≤ length rest.now → rest.now ≡ bytes
KeepsWhole bytes (Ok (Last payload after)) = Unit {0}
KeepsWhole bytes (Err fault) = Unit {0}

-- the text of full frames, as long as so many of them have
abbrev pub AreFull : Bytes → Type 0
AreFull text = length text ≡ max_chunk * (length text / max_chunk)

-- the full frames of a text, and then these bytes
unfoldable pub pending : Bytes → Bytes → Bytes
pending text rest = chunk_frames (length text / max_chunk) text ++ rest
