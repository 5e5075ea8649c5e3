-- What a command says can be given: words, or a text for the shell.
use Rattle.std.proofs.Common.{◌≡◌, ◌⊎◌, inl, inr, ℕ, zero, suc, ◌<◌, Bool, true, false, cond, not, ◌&&◌, ◌==◌, nat_le, List, [], ◌∷◌, ◌++◌, length, None, Some, refl, sym, ap, ◌∙◌, subst, arith, append_assoc, append-nil, eqb-true, flat_map, filter, IsUtf8, codes, le-leb}
use Rattle.std.specs.List.{list_all, list_any, prefix_len, slice_split, onto_first}
use Rattle.std.specs.Str.{IsAscii}
use Rattle.std.proofs.lemmas.Bool.{and_from, and_parts, or_parts, or_from, or_right, or_cases, false≢true, true≢false, not-true, not_from_false}
use Rattle.std.proofs.lemmas.Str.{IsUtf8-append, IsUtf8-from_ascii, is_utf8-from_IsUtf8}
use Rattle.up_text.specs.Names.{is_value}
use Rattle.up_text.specs.Scripts.{is_filled, words_in}
use Rattle.up_text.specs.Tokens.{Mark, Part, Quoting, Folded, Alone, Blank, Passed, Stop, Fail, Mode, Outside, Comment, Escaped, Quoted, mark_of, mode_after, is_line_feed, is_blank, is_hash, is_quote, is_backslash}
use Rattle.up_text.specs.Places.{is_space, command_bytes}
use Rattle.up_stanza.specs.declared.action.Action.{Action}
use Rattle.up_stanza.specs.declared.action.Action.TheVariants.{Words, Shell}
use Rattle.up_stanza.specs.Actions.{is_shell, action_of}
use Rattle.up_image.specs.Definable.{is_token_byte, is_word_byte, is_word, are_words, is_shell_text, can_run, is_script}
use Rattle.up_image.specs.declared.limits.TheConstants.{MAX_IMAGE, MAX_ITEMS}
use Rattle.up_image.proofs.Thinning.{before_cut, after_cut, push_text}
use Rattle.up_image.proofs.Spelling.{blank_low}
use Rattle.up_image.proofs.Rereading.{Again, Follows}
use Rattle.up_image.proofs.GivenActions.{CommandGood}

-- a text without bytes for the shell has no #

hash_passes : (b : ℕ) → is_hash b ≡ true → mark_of false 0 (Outside false) b [] ≡ Passed
unfolding is_hash is_line_feed is_blank
hash_passes b is = rw (eqb-true b 35 is) refl

backslash_shell : (b : ℕ) → is_backslash b ≡ true → is_shell b ≡ true
unfolding is_backslash is_shell
backslash_shell b is = rw (eqb-true b 92 is) refl

quote_shell : (b : ℕ) → is_quote b ≡ true → is_shell b ≡ true
unfolding is_quote is_shell
quote_shell b is = by_case (or_cases (b == 34) (b == 39) is)
  where
    by_case : ((b == 34) ≡ true) ⊎ ((b == 39) ≡ true) → list_any (λ special. special == b) (codes "~`!$^&*()=|\\{}[];\"'<>?") ≡ true
    by_case (inl one) = rw (eqb-true b 34 one) refl
    by_case (inr other) = rw (eqb-true b 39 other) refl

calm : (b : ℕ) → is_hash b ≡ false → is_shell b ≡ false → mode_after (Outside false) b [] ≡ Outside false
calm b none never = by_case (is_blank b) (is_hash b) (is_backslash b) (is_quote b) refl refl refl
  where
    by_case : (l h k q : Bool) → is_hash b ≡ h → is_backslash b ≡ k → is_quote b ≡ q → cond l (Outside false) (cond h Comment (cond k Escaped (cond q (Quoted b false) (Outside false)))) ≡ Outside false
    by_case true h k q eh ek eq = refl
    by_case false true k q eh ek eq = absurd (false≢true (sym none ∙ eh))
    by_case false false true q eh ek eq = absurd (false≢true (sym never ∙ backslash_shell b ek))
    by_case false false false true eh ek eq = absurd (false≢true (sym never ∙ quote_shell b eq))
    by_case false false false false eh ek eq = refl

no_hash : (b : ℕ) (mark : Mark) → (mark ≡ Passed → ⊥) → mark_of false 0 (Outside false) b [] ≡ mark → is_hash b ≡ false
no_hash b mark other is = by_case (is_hash b) refl
  where
    by_case : (h : Bool) → is_hash b ≡ h → is_hash b ≡ false
    by_case true eh = absurd (other (sym is ∙ hash_passes b eh))
    by_case false eh = eh

abbrev is_calm : ℕ → Bool
is_calm b = not (is_hash b) && not (is_shell b)

calm_byte : (b : ℕ) (mark : Mark) (mode next : Mode) → mode ≡ Outside false → (mark ≡ Passed → ⊥) → Again mode b mark next → is_shell b ≡ false → (is_calm b ≡ true) × (next ≡ Outside false)
calm_byte b mark mode next same other again never =
    let marked : mark_of false 0 (Outside false) b [] ≡ mark = ap (λ m. mark_of false 0 m b []) (sym same) ∙ again.marked in
    let none = no_hash b mark other marked in
    (and_from _ _ (not_from_false _ none) (not_from_false _ never), sym again.moved ∙ ap (λ m. mode_after m b []) same ∙ calm b none never)

calm_rest : (ms : List Mark) (mode : Mode) → mode ≡ Outside false → Follows mode ms → list_any is_shell (flat_map command_bytes ms) ≡ false → list_all is_calm (flat_map command_bytes ms) ≡ true
calm_rest [] mode same follows never = refl
calm_rest (Part b ∷ ms) mode same (next, again, later) never =
    let parts = or_parts (is_shell b) (list_any is_shell (flat_map command_bytes ms)) never in
    let one = calm_byte b (Part b) mode next same (λ is. cc) again parts.0 in
    and_from _ _ one.0 (calm_rest ms next one.1 later parts.1)
calm_rest (Quoting b ∷ ms) mode same (next, again, later) never =
    let parts = or_parts (is_shell b) (list_any is_shell (flat_map command_bytes ms)) never in
    let one = calm_byte b (Quoting b) mode next same (λ is. cc) again parts.0 in
    and_from _ _ one.0 (calm_rest ms next one.1 later parts.1)
calm_rest (Blank b ∷ ms) mode same (next, again, later) never =
    let parts = or_parts (is_shell b) (list_any is_shell (flat_map command_bytes ms)) never in
    let one = calm_byte b (Blank b) mode next same (λ is. cc) again parts.0 in
    and_from _ _ one.0 (calm_rest ms next one.1 later parts.1)
calm_rest (Folded ∷ ms) mode same (next, stays, later) never = calm_rest ms next (sym stays.1 ∙ same) later never
calm_rest (Passed ∷ ms) mode same (next, stays, later) never = calm_rest ms next (sym stays.1 ∙ same) later never
calm_rest (Alone b ∷ ms) mode same (next, bad, later) never = absurd bad
calm_rest (Stop ∷ ms) mode same (next, bad, later) never = absurd bad
calm_rest (Fail fault ∷ ms) mode same (next, bad, later) never = absurd bad

-- the words of a text

word_byte : (b : ℕ) → is_token_byte b ≡ true → is_calm b ≡ true → is_blank b ≡ false → is_word_byte b ≡ true
unfolding is_word_byte is_line_feed
word_byte b token calm blank =
    let one = and_parts (not (b == 0)) (not (b == 10)) token in
    let two = and_parts (not (is_hash b)) (not (is_shell b)) calm in
    not_from_false _ (or_from _ _ (or_from _ _ (or_from _ _ (or_from _ _ (not-true _ one.0) (not-true _ one.1)) blank) (not-true _ two.0)) (not-true _ two.1))

record PieceGood (piece : List ℕ) : Type 0 where
  utf8 : IsUtf8 piece
  bytes : list_all is_word_byte piece ≡ true

abbrev AllPieces : List (List ℕ) → Type 0
AllPieces [] = Unit {0}
AllPieces (piece ∷ pieces) = PieceGood piece × AllPieces pieces

-- pieces, and what stands before the first
abbrev Pieces : List ℕ → List (List ℕ) → Type 0
Pieces pending [] = PieceGood pending
Pieces pending (piece ∷ pieces) = PieceGood (pending ++ piece) × AllPieces pieces

onto_good : (pending : List ℕ) (b : ℕ) (pieces : List (List ℕ)) → Pieces (pending ++ b ∷ []) pieces → Pieces pending (onto_first b pieces)
onto_good pending b [] good = (good, tt)
onto_good pending b (piece ∷ pieces) good = (subst PieceGood (append_assoc pending (b ∷ []) piece) good.0, good.1)

none_pending : (pieces : List (List ℕ)) → Pieces [] pieces → AllPieces pieces
none_pending [] good = tt
none_pending (piece ∷ pieces) good = good

all_push : (pending : List ℕ) (b : ℕ) → list_all is_word_byte pending ≡ true → is_word_byte b ≡ true → list_all is_word_byte (pending ++ b ∷ []) ≡ true
all_push [] b all one = and_from _ _ one refl
all_push (x ∷ pending) b all one = let parts = and_parts (is_word_byte x) (list_all is_word_byte pending) all in and_from _ _ parts.0 (all_push pending b parts.1 one)

split_good : (pending text : List ℕ) → IsUtf8 (pending ++ text) → list_all is_word_byte pending ≡ true → list_all is_token_byte text ≡ true → list_all is_calm text ≡ true → Pieces pending (slice_split is_blank text)
split_good pending [] utf8 all tokens calms = (record { utf8 = utf8; bytes = ap (list_all is_word_byte) (append-nil pending) ∙ all }, tt)
split_good pending (b ∷ text) utf8 all tokens calms =
    by_case (is_blank b) refl (λ whole. split_good [] text whole refl one.1 other.1) (λ whole bytes. split_good (pending ++ b ∷ []) text whole bytes one.1 other.1)
  where
    one : (is_token_byte b ≡ true) × (list_all is_token_byte text ≡ true)
    one = and_parts (is_token_byte b) (list_all is_token_byte text) tokens

    other : (is_calm b ≡ true) × (list_all is_calm text ≡ true)
    other = and_parts (is_calm b) (list_all is_calm text) calms

    by_case : (l : Bool) → is_blank b ≡ l → (IsUtf8 text → Pieces [] (slice_split is_blank text)) → (IsUtf8 ((pending ++ b ∷ []) ++ text) → list_all is_word_byte (pending ++ b ∷ []) ≡ true → Pieces (pending ++ b ∷ []) (slice_split is_blank text))
        → Pieces pending (cond l ([] ∷ slice_split is_blank text) (onto_first b (slice_split is_blank text)))
    by_case true el next more = (
      record { utf8 = subst IsUtf8 (sym (append-nil pending)) (before_cut pending b text utf8 (blank_low b el)); bytes = ap (list_all is_word_byte) (append-nil pending) ∙ all },
      none_pending (slice_split is_blank text) (next (after_cut pending b text utf8 (blank_low b el))),
    )
    by_case false el next more =
        onto_good pending b (slice_split is_blank text) (more (push_text pending b text utf8) (all_push pending b all (word_byte b one.0 other.0 el)))

words_good : (pieces : List (List ℕ)) → AllPieces pieces → list_all is_word (filter is_filled pieces) ≡ true
words_good [] good = refl
words_good ([] ∷ pieces) good = words_good pieces good.1
words_good ((b ∷ piece) ∷ pieces) good = and_from _ _ (and_from _ _ (is_utf8-from_IsUtf8 (b ∷ piece) good.0.utf8) good.0.bytes) (words_good pieces good.1)

first_filled : (b : ℕ) (pieces : List (List ℕ)) → is_filled (filter is_filled (onto_first b pieces)) ≡ true
first_filled b [] = refl
first_filled b (piece ∷ pieces) = refl

words_filled : (b : ℕ) (text : List ℕ) → is_blank b ≡ false → is_filled (words_in (b ∷ text)) ≡ true
words_filled b text solid = rw solid (first_filled b (slice_split is_blank text))

-- a mark that is no blank begins no text with a blank
solid_byte : (b : ℕ) (mark : Mark) → (mark ≡ Passed → ⊥) → (mark ≡ Stop → ⊥) → (mark ≡ Blank b → ⊥) → mark_of false 0 (Outside false) b [] ≡ mark → is_blank b ≡ false
solid_byte b mark passed stop blank is = by_case (is_line_feed b) (is_blank b) refl is
  where
    by_case : (f l : Bool) → is_blank b ≡ l → cond f Stop (cond l (Blank b) (cond (is_hash b) Passed (cond (is_backslash b) (Quoting b) (cond (is_quote b) (Quoting b) (Part b))))) ≡ mark → is_blank b ≡ false
    by_case true l el same = absurd (stop (sym same))
    by_case false true el same = absurd (blank (sym same))
    by_case false false el same = el

marks_filled : (ms : List Mark) → Follows (Outside false) ms → prefix_len is_space ms ≡ 0 → (length (flat_map command_bytes ms) == 0) ≡ false → is_filled (words_in (flat_map command_bytes ms)) ≡ true
marks_filled [] follows starts some = absurd (true≢false some)
marks_filled (Part b ∷ ms) (next, again, later) starts some = words_filled b (flat_map command_bytes ms) (solid_byte b (Part b) (λ is. cc) (λ is. cc) (λ is. cc) again.marked)
marks_filled (Quoting b ∷ ms) (next, again, later) starts some = words_filled b (flat_map command_bytes ms) (solid_byte b (Quoting b) (λ is. cc) (λ is. cc) (λ is. cc) again.marked)
marks_filled (Blank b ∷ ms) follows starts some = absurd (omega (arith, starts))
marks_filled (Passed ∷ ms) follows starts some = absurd (omega (arith, starts))
marks_filled (Folded ∷ ms) (next, stays, later) starts some = absurd (false≢true stays.0)
marks_filled (Alone b ∷ ms) (next, never, later) starts some = absurd never
marks_filled (Stop ∷ ms) (next, never, later) starts some = absurd never
marks_filled (Fail fault ∷ ms) (next, never, later) starts some = absurd never

-- a text for the shell

one_byte : (b : ℕ) (text : List ℕ) → b < 128 → IsUtf8 text → IsUtf8 (b ∷ text)
one_byte b text low utf8 = IsUtf8-append (b ∷ []) text (IsUtf8-from_ascii (b ∷ []) ascii) utf8
  where
    ascii : IsAscii (b ∷ [])
    ascii zero = low
    ascii (suc i) = omega arith

exec_text : (text : List ℕ) → IsUtf8 text → IsUtf8 (codes "exec " ++ text)
exec_text text utf8 = one_byte 101 _ (omega arith) (one_byte 120 _ (omega arith) (one_byte 101 _ (omega arith) (one_byte 99 _ (omega arith) (one_byte 32 text (omega arith) utf8))))

pub values_from_tokens : (text : List ℕ) → list_all is_token_byte text ≡ true → is_value text ≡ true
values_from_tokens [] all = refl
values_from_tokens (b ∷ text) all =
    let parts = and_parts (is_token_byte b) (list_all is_token_byte text) all in
    and_from _ _ (and_parts (not (b == 0)) (not (b == 10)) parts.0).0 (values_from_tokens text parts.1)

shell_good : (text : List ℕ) → CommandGood text → list_any is_shell text ≡ true → is_shell_text (codes "exec " ++ text) ≡ true
shell_good text good some =
    and_from _ _ (and_from _ _ (and_from _ _ (le-leb (length (codes "exec " ++ text)) MAX_IMAGE (omega (arith, good.short))) (is_utf8-from_IsUtf8 (codes "exec " ++ text) (exec_text text good.utf8))) (values_from_tokens text good.bytes))
    (or_right (is_script (codes "exec " ++ text)) _ (and_from _ _ some good.again))

-- what a command says
pub action_good : (text : List ℕ) (action : Action) → CommandGood text → action_of text ≡ Some action → can_run (Some action) ≡ true
unfolding action_of
action_good text action good is = by_case (length text == 0) (list_any is_shell text) (nat_le (length (words_in text)) MAX_ITEMS) refl refl refl is
  where
    words_are : (length text == 0) ≡ false → list_any is_shell text ≡ false → nat_le (length (words_in text)) MAX_ITEMS ≡ true → are_words (words_in text) ≡ true
    words_are some never few =
        let calms : list_all is_calm text ≡ true = ap (list_all is_calm) good.same ∙ calm_rest good.ms (Outside false) refl good.follows (ap (list_any is_shell) (sym good.same) ∙ never) in
        let filled : is_filled (words_in text) ≡ true = ap (λ t. is_filled (words_in t)) good.same ∙ marks_filled good.ms good.follows good.starts (ap (λ t. length t == 0) (sym good.same) ∙ some) in
        and_from _ _ (and_from _ _ filled few) (words_good (slice_split is_blank text) (none_pending (slice_split is_blank text) (split_good [] text good.utf8 refl good.bytes calms)))

    by_case : (e s n : Bool) → (length text == 0) ≡ e → list_any is_shell text ≡ s → nat_le (length (words_in text)) MAX_ITEMS ≡ n
        → cond e None (cond s (Some (Shell (codes "exec " ++ text))) (cond n (Some (Words (words_in text))) None)) ≡ Some action → can_run (Some action) ≡ true
    by_case true s n ee es en is = absurd (cc)
    by_case false true n ee es en is = let same : Shell (codes "exec " ++ text) ≡ action = cc in subst (λ a. can_run (Some a) ≡ true) same (shell_good text good es)
    by_case false false true ee es en is = let same : Words (words_in text) ≡ action = cc in subst (λ a. can_run (Some a) ≡ true) same (words_are ee es en)
    by_case false false false ee es en is = absurd (cc)
