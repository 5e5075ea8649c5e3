-- A word that is cut at its first `=`.
use Rattle.std.proofs.Common.{◌≡◌, ℕ, ◌+◌, ◌<◌, [], ◌∷◌, drop, get_or, map, ap, add-one, drop-cons, option_and_then, List, Option, None, Some, length, Bor, ◌∙◌, sym, option_map, Result, Err, Bool, not, arith}
use Rattle.std.proofs.lemmas.List.{get_or-map, length-map}
use Rattle.up_model.specs.Values.{Bytes, Bindings}
use Rattle.up_wire.specs.declared.fault.WireFault.{WireFault}
use Rattle.up_wire.specs.declared.fault.WireFault.TheVariants.{FrameTooLarge, BadFrame, BadWord, Memory}
use Rattle.up_model.specs.Requests.{RequestValue}
use Rattle.up_model.specs.declared.request.Command.{Command}
use Rattle.up_wire.specs.Words.{with_word, with_words, request_with, Makes, Sets}
use Rattle.std.specs.Prelude.{unwrap_or}

-- the texts after references
abbrev pub texts : List (Bor Bytes) → List Bytes
texts = map (λ word. word.now)

-- the variables of the words from a place on
pub words_left : (words : List (Bor Bytes)) (i : ℕ) (vars : Bindings) (d : Bor Bytes) → i < length words → with_words vars (drop i (texts words)) ≡ option_and_then (λ more. with_words more (drop (i + 1) (texts words))) (with_word (get_or words i d).now vars)
words_left words i vars d within =
    let size : length (texts words) ≡ length words = length-map words (λ word. word.now) in
    let one : drop i (texts words) ≡ get_or (texts words) i [] ∷ drop (i + 1) (texts words) = rw add-one (drop-cons (texts words) i [] (omega (arith, size, within))) in
    let its : get_or (texts words) i [] ≡ (get_or words i d).now = get_or-map (λ word. word.now) words i d [] within in
    ap (with_words vars) one ∙ ap (λ word. option_and_then (λ more. with_words more (drop (i + 1) (texts words))) (with_word word vars)) its

-- a word that was set
pub words_next : (words : List (Bor Bytes)) (i : ℕ) (vars next : Bindings) (d : Bor Bytes) → i < length words → with_words vars (drop i (texts words)) ≡ with_words [] (texts words) → with_word (get_or words i d).now vars ≡ Some next → with_words next (drop (i + 1) (texts words)) ≡ with_words [] (texts words)
words_next words i vars next d within so_far its =
    sym (words_left words i vars d within ∙ ap (option_and_then (λ more. with_words more (drop (i + 1) (texts words)))) its) ∙ so_far

-- a word that was refused
pub words_stop : (fault : WireFault) (words : List (Bor Bytes)) (i : ℕ) (vars next : Bindings) (d : Bor Bytes) → i < length words → with_words vars (drop i (texts words)) ≡ with_words [] (texts words) → Sets (Err fault) next (with_word (get_or words i d).now vars) → Makes {Y = Bindings} (Err fault) (with_words [] (texts words))
words_stop FrameTooLarge words i vars next d within so_far its = absurd its
words_stop BadFrame words i vars next d within so_far its = absurd its
words_stop BadWord words i vars next d within so_far its =
    sym so_far ∙ (words_left words i vars d within ∙ ap (option_and_then (λ more. with_words more (drop (i + 1) (texts words)))) its)
words_stop Memory words i vars next d within so_far its = tt

-- the texts of an argument, none if it wasn't given
pub texts_or_none : (found : Option (Bor (List (Bor Bytes)))) (result none : Bor (List (Bor Bytes))) (given : Option (List Bytes)) → result ≡ unwrap_or found none → none.now ≡ [] → option_map (λ s. texts s.now) found ≡ given → texts result.now ≡ unwrap_or given []
texts_or_none None result none given is empty same = ap (λ s. texts s.now) is ∙ (ap texts empty ∙ ap (λ o. unwrap_or o []) same)
texts_or_none (Some s) result none given is empty same = ap (λ s. texts s.now) is ∙ ap (λ o. unwrap_or o []) same

-- what was made, of equal parts
pub made_of : (result : Result RequestValue WireFault) (its : Command) (set set-is : Bool) (name name-is : Bytes) (words words-are : List Bytes) → set ≡ set-is → name ≡ name-is → words ≡ words-are → Makes result (request_with its (not set) name words) → Makes result (request_with its (not set-is) name-is words-are)
made_of result its set set-is name name-is words words-are p q r made = rw (← p, ← q, ← r) made
