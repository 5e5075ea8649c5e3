-- The frames of an answer, one after another.
use Rattle.std.proofs.Common.{◌≡◌, ◌<◌, ◌≤◌, ◌+◌, ◌*◌, ℕ, suc, Bool, ◌∷◌, ◌++◌, length, take, drop, refl, sym, ap, ◌∙◌, length-drop, arith}
use Rattle.std.proofs.lemmas.List.{append_assoc, drop-drop}
use Rattle.up_model.specs.Values.{Bytes}
use Rattle.up_wire.specs.Frames.{frame}
use Rattle.up_wire.specs.Answers.{max_chunk, chunk_frame, chunk_frames, full_frames, verdict_number, frames_of}

none_before : (text : Bytes) → length text ≤ max_chunk → full_frames text ≡ 0
none_before text short = omega (arith, short)

-- a short text is in the last frame
pub last_frame : (ok : Bool) (text : Bytes) → length text ≤ max_chunk → frames_of ok text ≡ frame (verdict_number ok ∷ text)
unfolding frames_of
last_frame ok text short = ap (λ n. chunk_frames n text ++ frame (verdict_number ok ∷ drop (max_chunk * n) text)) (none_before text short)

one_before : (text : Bytes) → max_chunk < length text → full_frames text ≡ suc (full_frames (drop max_chunk text))
one_before text long = omega (arith, long, length-drop max_chunk text)

drop_more : (n m : ℕ) (text : Bytes) → drop m (drop n text) ≡ drop (n + m) text
drop_more n m text = drop-drop m n text

abbrev frames_by : ℕ → Bool → Bytes → Bytes
frames_by count ok text = chunk_frames count text ++ frame (verdict_number ok ∷ drop (max_chunk * count) text)

frames_by-is : (ok : Bool) (text : Bytes) → frames_of ok text ≡ frames_by (full_frames text) ok text
unfolding frames_of
frames_by-is ok text = refl

frames_by-suc : (count : ℕ) (ok : Bool) (text : Bytes) → frames_by (suc count) ok text ≡ chunk_frame (take max_chunk text) ++ frames_by count ok (drop max_chunk text)
frames_by-suc count ok text =
    let place : max_chunk * suc count ≡ max_chunk + max_chunk * count = omega arith in
    let end : drop (max_chunk * suc count) text ≡ drop (max_chunk * count) (drop max_chunk text) = ap (λ n. drop n text) place ∙ sym (drop_more max_chunk (max_chunk * count) text) in
    append_assoc (chunk_frame (take max_chunk text)) (chunk_frames count (drop max_chunk text)) (frame (verdict_number ok ∷ drop (max_chunk * suc count) text))
    ∙ ap (λ x. chunk_frame (take max_chunk text) ++ (chunk_frames count (drop max_chunk text) ++ frame (verdict_number ok ∷ x))) end

-- a long text begins with a full frame
pub first_frame : (ok : Bool) (text : Bytes) → max_chunk < length text → frames_of ok text ≡ chunk_frame (take max_chunk text) ++ frames_of ok (drop max_chunk text)
first_frame ok text long =
    frames_by-is ok text
    ∙ (ap (λ n. frames_by n ok text) (one_before text long)
    ∙ (frames_by-suc (full_frames (drop max_chunk text)) ok text
    ∙ ap (λ x. chunk_frame (take max_chunk text) ++ x) (sym (frames_by-is ok (drop max_chunk text)))))

-- one full frame more is written
pub written : (ok : Bool) (out new rest chunk after total : Bytes) → new ≡ out ++ frame (2 ∷ chunk) → chunk ≡ take max_chunk rest → after ≡ drop max_chunk rest → max_chunk < length rest → out ++ frames_of ok rest ≡ total → new ++ frames_of ok after ≡ total
written ok out new rest chunk after total p front back long so_far =
    ap (λ x. x ++ frames_of ok after) p
    ∙ (append_assoc out (chunk_frame chunk) (frames_of ok after)
    ∙ (ap (λ x. out ++ (chunk_frame x ++ frames_of ok after)) front
    ∙ (ap (λ x. out ++ (chunk_frame (take max_chunk rest) ++ frames_of ok x)) back
    ∙ (ap (λ x. out ++ x) (sym (first_frame ok rest long))
    ∙ so_far))))
