-- The full frames of an answer, and its last one.
use Rattle.std.proofs.Common.{◌≡◌, ◌<◌, ◌≤◌, ◌+◌, ◌-◌, ◌*◌, ◌/◌, ℕ, zero, suc, Bool, true, false, [], ◌∷◌, ◌++◌, length, take, drop, refl, sym, ap, ◌∙◌, cond, ◌⊎◌, inl, inr, ◌||◌, not, Option, Some, None, option_map, length-append, length-drop, arith}
use Rattle.std.proofs.lemmas.List.{append_assoc, append-nil, take-append-le, drop-append-le, take_all, drop_at}
use Rattle.std.specs.Str.{is_utf8}
use Rattle.std.proofs.lemmas.Option.{cond_some, none-some}
use Rattle.up_model.specs.declared.request.Answer.{Answer}
use Rattle.up_model.specs.Values.{Bytes}
use Rattle.up_wire.specs.Frames.{frame, max_payload, wait_number}
use Rattle.up_wire.proofs.Payloads.{wait_takes}
use Rattle.up_wire.specs.Answers.{verdict_of, with_text, if_text_is, is_nothing, last_in, answer_frames, max_chunk, chunk_frame, chunk_frames, full_frames, verdict_number, frames_of, Opens}

-- full frames don't look past their text
pub chunk_frames-front : (count : ℕ) (text more : Bytes) → length text ≡ max_chunk * count → chunk_frames count (text ++ more) ≡ chunk_frames count text
chunk_frames-front zero text more full = refl
chunk_frames-front (suc count) text more full =
    let long : max_chunk ≤ length text = omega (arith, full) in
    let left : length (drop max_chunk text) ≡ max_chunk * count = omega (arith, full, length-drop max_chunk text) in
    ap (λ chunk. chunk_frame chunk ++ chunk_frames count (drop max_chunk (text ++ more))) (take-append-le max_chunk text more long)
    ∙ ap (λ frames. chunk_frame (take max_chunk text) ++ frames) (ap (chunk_frames count) (drop-append-le max_chunk text more long) ∙ chunk_frames-front count (drop max_chunk text) more left)

-- one full frame more
chunk_frames-more : (count : ℕ) (text chunk : Bytes) → length text ≡ max_chunk * count → length chunk ≡ max_chunk → chunk_frames (suc count) (text ++ chunk) ≡ chunk_frames count text ++ chunk_frame chunk
chunk_frames-more zero [] chunk full size = append-nil (chunk_frame (take max_chunk chunk)) ∙ ap chunk_frame (take_all max_chunk chunk (omega (arith, size)))
chunk_frames-more zero (byte ∷ text) chunk full size = absurd (omega (arith, full))
chunk_frames-more (suc count) text chunk full size =
    let long : max_chunk ≤ length text = omega (arith, full) in
    let left : length (drop max_chunk text) ≡ max_chunk * count = omega (arith, full, length-drop max_chunk text) in
    ap (λ front. chunk_frame front ++ chunk_frames (suc count) (drop max_chunk (text ++ chunk))) (take-append-le max_chunk text chunk long)
    ∙ (ap (λ frames. chunk_frame (take max_chunk text) ++ frames) (ap (chunk_frames (suc count)) (drop-append-le max_chunk text chunk long) ∙ chunk_frames-more count (drop max_chunk text) chunk left size)
    ∙ sym (append_assoc (chunk_frame (take max_chunk text)) (chunk_frames count (drop max_chunk text)) (chunk_frame chunk)))

pub opens_nothing : (bytes : Bytes) → Opens bytes [] bytes
opens_nothing bytes = record { count = 0; full = refl; whole = refl }

pub opens_more : (bytes text rest payload after chunk : Bytes) → Opens bytes text rest → rest ≡ frame payload ++ after → payload ≡ 2 ∷ chunk → length chunk ≡ max_chunk → Opens bytes (text ++ chunk) after
opens_more bytes text rest payload after chunk h first its size = record {
  count = suc h.count;
  full = omega (arith, h.full, size, length-append text chunk);
  whole =
      h.whole
      ∙ (ap (λ x. chunk_frames h.count text ++ x) (first ∙ ap (λ x. frame x ++ after) its)
      ∙ (sym (append_assoc (chunk_frames h.count text) (chunk_frame chunk) after)
      ∙ ap (λ x. x ++ after) (sym (chunk_frames-more h.count text chunk h.full size))));
}

full_frames-is : (count text last : ℕ) → text ≡ max_chunk * count → (0 < last) ⊎ (text ≡ 0) → last ≤ max_chunk → (text + last - 1) / max_chunk ≡ count
full_frames-is count text last full some short = elim some [
  | inl h ↦ omega (arith, full, h, short)
  | inr h ↦ omega (arith, full, h, short)
]

-- the frame that ends an answer
pub opens_last : (bytes text rest last after : Bytes) (ok : Bool) → Opens bytes text rest → rest ≡ frame (verdict_number ok ∷ last) ++ after → (0 < length last) ⊎ (length text ≡ 0) → length last ≤ max_chunk → bytes ≡ frames_of ok (text ++ last) ++ after
unfolding frames_of
opens_last bytes text rest last after ok h first some short =
    let count : full_frames (text ++ last) ≡ h.count = ap (λ n. (n - 1) / max_chunk) (length-append text last) ∙ full_frames-is h.count (length text) (length last) h.full some short in
    let end : drop (max_chunk * h.count) (text ++ last) ≡ last = drop_at text last (max_chunk * h.count) h.full in
    let front : chunk_frames h.count (text ++ last) ≡ chunk_frames h.count text = chunk_frames-front h.count text last h.full in
    h.whole
    ∙ (ap (λ x. chunk_frames h.count text ++ x) first
    ∙ (sym (append_assoc (chunk_frames h.count text) (frame (verdict_number ok ∷ last)) after)
    ∙ (ap (λ x. x ++ frame (verdict_number ok ∷ last) ++ after) (sym front)
    ∙ (ap (λ x. chunk_frames h.count (text ++ last) ++ frame (verdict_number ok ∷ x) ++ after) (sym end)
    ∙ ap (λ n. chunk_frames n (text ++ last) ++ frame (verdict_number ok ∷ drop (max_chunk * n) (text ++ last)) ++ after) (sym count)))))

chosen_some : {A : Type 0} (b : Bool) (o : Option A) (y : A) → cond b o None ≡ Some y → (b ≡ true) × (o ≡ Some y)
chosen_some true o y h = (refl, h)
chosen_some false o y h = absurd (none-some y h)

mapped_some : {A B P : Type 0} (f : A → B) (o : Option A) (y : B) → option_map f o ≡ Some y → ((x : A) → o ≡ Some x → f x ≡ y → P) → P
mapped_some f None y h k = absurd (none-some y h)
mapped_some f (Some x) y h k = k x refl (cond_some true (f x) y h).1

verdict_same : (ok : Bool) → wait_number ok ≡ verdict_number ok
verdict_same true = refl
verdict_same false = refl

verdict_takes : (kind : ℕ) (ok : Bool) → verdict_of kind ≡ Some ok → kind ≡ verdict_number ok
verdict_takes kind ok h = wait_takes kind ok h ∙ verdict_same ok

some_of : (text last : Bytes) → (is_nothing text || not (is_nothing last)) ≡ true → (0 < length last) ⊎ (length text ≡ 0)
some_of [] last h = inr refl
some_of (byte ∷ text) [] h = cc
some_of (byte ∷ text) (other ∷ last) h = inl (omega arith)

-- an answer whose last frame was read
record IsLast (text payload : Bytes) (answer : Answer) : Type 0 where
  last : Bytes
  its : payload ≡ verdict_number answer.ok ∷ last
  all : answer.text ≡ text ++ last
  valid : is_utf8 answer.text ≡ true
  some : (0 < length last) ⊎ (length text ≡ 0)

last_parts : (text payload : Bytes) (answer : Answer) → last_in text payload ≡ Some answer → IsLast text payload answer
last_parts text [] answer h = absurd (none-some answer h)
last_parts text (kind ∷ last) answer h =
    let outer = chosen_some (is_nothing text || not (is_nothing last)) (if_text_is (text ++ last) kind) answer h in
    let inner = chosen_some (is_utf8 (text ++ last)) (option_map (with_text (text ++ last)) (verdict_of kind)) answer outer.1 in
    mapped_some (with_text (text ++ last)) (verdict_of kind) answer inner.1 (λ ok read same. record {
      last = last;
      its = ap (λ n. n ∷ last) (verdict_takes kind ok read ∙ ap (λ (a : Answer). verdict_number a.ok) same);
      all = ap (λ (a : Answer). a.text) (sym same);
      valid = ap (λ (a : Answer). is_utf8 a.text) (sym same) ∙ inner.0;
      some = some_of text last outer.0;
    })

-- the answer that a payload ends
pub closes : (bytes text rest payload after : Bytes) (answer : Answer) → Opens bytes text rest → rest ≡ frame payload ++ after → length payload ≤ max_payload → last_in text payload ≡ Some answer → (is_utf8 answer.text ≡ true) × (bytes ≡ answer_frames answer ++ after)
closes bytes text rest payload after answer h first fits read =
    let its = last_parts text payload answer read in
    let short : length its.last ≤ max_chunk = omega (arith, fits, ap length its.its) in
    let whole = opens_last bytes text rest its.last after answer.ok h (first ∙ ap (λ x. frame x ++ after) its.its) its.some short in
    (its.valid, whole ∙ ap (λ x. frames_of answer.ok x ++ after) (sym its.all))

-- an answer takes bytes away
pub answer_shorter : (rest after : Bytes) (answer : Answer) → rest ≡ answer_frames answer ++ after → length after < length rest
unfolding frames_of
answer_shorter rest after answer first =
    let count = full_frames answer.text in
    let end = frame (verdict_number answer.ok ∷ drop (max_chunk * count) answer.text) in
    let size = length-append (chunk_frames count answer.text ++ end) after in
    let front = length-append (chunk_frames count answer.text) end in
    omega (arith, ap length first, size, front)
