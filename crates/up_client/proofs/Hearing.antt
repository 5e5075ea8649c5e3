-- What is heard of bytes that are known.
use Rattle.std.proofs.Common.{◌≡◌, ◌∙◌, ◌∷◌, ◌++◌, true, List, [], Option, None, Some, MatchOption, drop, sym, ap, refl, subst, append_assoc}
use Rattle.std.specs.List.{flat_map, AllByRecursion}
use Rattle.std.specs.Io.KnownBytes.{Consumes}
use Rattle.std.specs.Str.{is_utf8}
use Rattle.up_model.specs.declared.request.Answer.{Answer}
use Rattle.up_model.specs.Values.{Bytes}
use Rattle.up_wire.specs.Answers.{answer_frames, AnswerFrames}
use Rattle.up_client.specs.Asking.{Hears}

-- the first of the answers that are whole
pub first_heard : (whole rest : Bytes) (answers : List Answer) (found : Option Answer) → AnswerFrames whole answers rest → MatchOption found (answers ≡ []) (λ first. answers ≡ first ∷ drop 1 answers) → Hears whole rest found
first_heard whole rest answers None frames h = frames.whole ∙ ap (λ a. flat_map answer_frames a ++ rest) h
first_heard whole rest answers (Some first) frames h =
    let others = flat_map answer_frames (drop 1 answers) in
    let each = subst (λ a. AllByRecursion (λ (answer : Answer). is_utf8 answer.text ≡ true) a) h frames.each in
    (others ++ rest, each.0, frames.whole ∙ (ap (λ a. flat_map answer_frames a ++ rest) h ∙ append_assoc (answer_frames first) others rest))

-- bytes that come after those that were heard
pub heard_on : (held bytes piece left new : Bytes) (found : Option Answer) → Hears (held ++ piece) new found → bytes ≡ piece ++ left → Hears (held ++ bytes) (new ++ left) found
heard_on held bytes piece left new None h cut =
    ap (λ x. held ++ x) cut ∙ (sym (append_assoc held piece left) ∙ ap (λ x. x ++ left) h)
heard_on held bytes piece left new (Some answer) (rest, valid, h) cut =
    (rest ++ left, valid, ap (λ x. held ++ x) cut ∙ (sym (append_assoc held piece left) ∙ (ap (λ x. x ++ left) h ∙ append_assoc (answer_frames answer) rest left)))

some_same : (x y : Bytes) → Some x ≡ Some y → x ≡ y
some_same x y h = cc

-- what a read leaves of bytes that are known
pub eaten : (old new : Option Bytes) (bytes piece : Bytes) → old ≡ Some bytes → Consumes old new piece → (left : Bytes) × (new ≡ Some left) × (bytes ≡ piece ++ left)
eaten None new bytes piece known h = cc
eaten (Some x) None bytes piece known h = absurd h
eaten (Some x) (Some left) bytes piece known h = (left, refl, sym (some_same x bytes known) ∙ h)
