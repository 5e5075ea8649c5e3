-- An answer that isn't whole yet: the text of its full frames, joined, and the bytes after them.
use Rattle.std.proofs.Common.{◌≡◌, ◌≤◌, ◌*◌, ◌/◌, ℕ, true, false, List, [], ◌∷◌, ◌++◌, length, take, Some, None, refl, sym, ap, subst, ◌∙◌, Result, Ok, Err, IsErrAnd, length-take, arith}
use Rattle.std.specs.List.{flat_map}
use Rattle.std.proofs.lemmas.List.{append_assoc, take-append-le}
use Rattle.up_model.specs.declared.request.Answer.{Answer}
use Rattle.up_wire.specs.declared.answers.Ahead.{Ahead}
use Rattle.up_wire.specs.declared.fault.FrameFault.{FrameFault}
use Rattle.up_wire.specs.declared.fault.FrameFault.TheVariants.{TooLarge}
use Rattle.up_wire.specs.declared.fault.WireFault.{WireFault}
use Rattle.up_wire.specs.declared.fault.WireFault.TheVariants.{FrameTooLarge, BadFrame, BadWord, Memory}
use Rattle.up_model.specs.Values.{Bytes}
use Rattle.up_wire.specs.Frames.{frame, max_payload, is_partial, IsFaulty}
use Rattle.up_wire.specs.Fault.{wire_fault}
use Rattle.up_wire.specs.Feeding.{FeedValue, frame_fault, refused}
use Rattle.up_wire.specs.Fields.{Refuses}
use Rattle.up_wire.specs.Answers.{max_chunk, chunk_frames, answer_frames, is_chunk, last_in, Opens, AnswerFrames, AnswerBegins, AnswersStop, LiesAhead, AreFull, pending}
use Rattle.up_wire.proofs.Joining.{closes}

-- what came first stays first
pub front_more : (first text chunk : Bytes) → take (length first) text ≡ first → take (length first) (text ++ chunk) ≡ first
front_more first text chunk kept =
    let within : length first ≤ length text = omega (arith, ap length kept, length-take (length first) text) in
    take-append-le (length first) text chunk within ∙ kept

full_count : (count size : ℕ) → size ≡ max_chunk * count → size / max_chunk ≡ count
full_count count size full = omega (arith, full)

pub opens_full : (bytes text tail : Bytes) → Opens bytes text tail → AreFull text
opens_full bytes text tail h = h.full ∙ ap (λ n. max_chunk * n) (sym (full_count h.count (length text) h.full))

pub opens_pending : (bytes text tail : Bytes) → Opens bytes text tail → bytes ≡ pending text tail
unfolding pending
opens_pending bytes text tail h = h.whole ∙ ap (λ n. chunk_frames n text ++ tail) (sym (full_count h.count (length text) h.full))

-- bytes that come after what is pending
pub pending_more : (text rest piece : Bytes) → AreFull text → Opens (pending text rest ++ piece) text (rest ++ piece)
unfolding pending
pending_more text rest piece full = record {
  count = length text / max_chunk;
  full = full;
  whole = append_assoc (chunk_frames (length text / max_chunk) text) rest piece;
}

pub pending_nothing : (text rest : Bytes) → text ≡ [] → pending text rest ≡ rest
unfolding pending
pending_nothing text rest none = ap (λ x. chunk_frames (length x / max_chunk) x ++ rest) none

-- no answer is whole yet
pub open_answers : (total text tail rest : Bytes) → Opens total text tail → is_partial tail ≡ true → rest ≡ tail → AreFull text × AnswerFrames total [] (pending text rest)
open_answers total text tail rest h partial same =
    let whole : total ≡ pending text rest = opens_pending total text tail h ∙ ap (pending text) (sym same) in
    let still : Opens (pending text rest) text tail = record { count = h.count; full = h.full; whole = sym whole ∙ h.whole } in (
      opens_full total text tail h,
      record { each = tt; whole = whole; unfinished = (text, tail, still, partial) },
    )

-- an answer that is whole now, and the answers after it
pub first_answers : (total text payload after rest : Bytes) (first : Answer) (others : List Answer) → Opens total text (frame payload ++ after) → length payload ≤ max_payload → last_in text payload ≡ Some first → AnswerFrames after others rest → AnswerFrames total (first ∷ others) rest
first_answers total text payload after rest first others h fits read more =
    let its = closes total text (frame payload ++ after) payload after first h refl fits read in
    record {
      each = (its.0, more.each);
      whole = its.1 ∙ (ap (λ x. answer_frames first ++ x) more.whole ∙ sym (append_assoc (answer_frames first) (flat_map answer_frames others) rest));
      unfinished = more.unfinished;
    }

-- the fault of the first answer stops all of them
pub begins_stops : (fault : WireFault) (total : Bytes) → AnswerBegins fault total → AnswersStop fault total
begins_stops FrameTooLarge total h = ([], total, tt, refl, h)
begins_stops BadFrame total h = ([], total, tt, refl, h)
begins_stops BadWord total h = absurd h
begins_stops Memory total h = tt

-- and so does a fault after the first answer
pub first_stops : (fault : WireFault) (total text payload after : Bytes) (first : Answer) → Opens total text (frame payload ++ after) → length payload ≤ max_payload → last_in text payload ≡ Some first → AnswersStop fault after → AnswersStop fault total
first_stops FrameTooLarge total text payload after first h fits read (others, rest, each, whole, faulty) =
    let its = closes total text (frame payload ++ after) payload after first h refl fits read in
    (first ∷ others, rest, (its.0, each), its.1 ∙ (ap (λ x. answer_frames first ++ x) whole ∙ sym (append_assoc (answer_frames first) (flat_map answer_frames others) rest)), faulty)
first_stops BadFrame total text payload after first h fits read (others, rest, each, whole, faulty) =
    let its = closes total text (frame payload ++ after) payload after first h refl fits read in
    (first ∷ others, rest, (its.0, each), its.1 ∙ (ap (λ x. answer_frames first ++ x) whole ∙ sym (append_assoc (answer_frames first) (flat_map answer_frames others) rest)), faulty)
first_stops BadWord total text payload after first h fits read stop = absurd stop
first_stops Memory total text payload after first h fits read stop = tt

-- a last frame that ends no answer
pub end_begins : (fault : WireFault) (total text payload after : Bytes) → Opens total text (frame payload ++ after) → length payload ≤ max_payload → is_chunk payload ≡ false → Refuses fault (last_in text payload) → AnswerBegins fault total
end_begins FrameTooLarge total text payload after h fits last refuses = absurd refuses
end_begins BadFrame total text payload after h fits last refuses = (text, payload, after, h, fits, last, refuses)
end_begins BadWord total text payload after h fits last refuses = absurd refuses
end_begins Memory total text payload after h fits last refuses = tt

-- a length over the limit after full frames
pub ahead_fault : (total text rest : Bytes) (fault : FrameFault) (result : Result Ahead WireFault) → Opens total text rest → fault ≡ TooLarge → IsFaulty TooLarge rest → IsErrAnd result (λ e. e ≡ wire_fault fault) → LiesAhead total text result
ahead_fault total text rest fault (Ok x) h its faulty same = absurd same
ahead_fault total text rest fault (Err e) h its faulty same =
    let large : FrameTooLarge ≡ e = sym (same ∙ ap wire_fault its) in
    let begins : AnswerBegins FrameTooLarge total = (text, rest, h, faulty) in
    subst (λ x. AnswerBegins x total) large begins

-- what a feed holds after a frame's fault
pub after_fault : (fault : WireFault) (its : FrameFault) (before : FeedValue) (text rest : Bytes) → Some its ≡ frame_fault fault → text ≡ [] → rest ≡ [] → (let after : FeedValue = record { rest = pending text rest; fault = Some its } in after) ≡ refused fault before
unfolding pending
after_fault FrameTooLarge its before text rest is empty none = rw (empty, none, is) refl
after_fault BadFrame its before text rest is empty none = rw (empty, none, is) refl
after_fault BadWord its before text rest is empty none = cc
after_fault Memory its before text rest is empty none = cc

-- a refusal that is no frame's fault
pub is_memory : (fault : WireFault) (total : Bytes) → None ≡ frame_fault fault → AnswersStop fault total → fault ≡ Memory
is_memory FrameTooLarge total none stop = cc
is_memory BadFrame total none stop = cc
is_memory BadWord total none stop = absurd stop
is_memory Memory total none stop = refl
