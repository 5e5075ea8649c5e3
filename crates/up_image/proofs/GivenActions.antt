-- What a command says can be given.
use Rattle.std.proofs.Common.{◌≡◌, ℕ, ◌+◌, ◌-◌, ◌≤◌, true, false, cond, ◌&&◌, List, [], ◌∷◌, ◌++◌, length, take, drop, reverse, None, is_none, refl, sym, ap, ◌∙◌, subst, arith, length-append, flat_map, filter, IsUtf8, take_while, take_all}
use Rattle.std.specs.List.{list_all, prefix_len, suffix_len}
use Rattle.std.specs.Str.{bytes_eq}
use Rattle.std.proofs.lemmas.Bool.{and_from, and_parts, false≢true, true≢false}
use Rattle.std.proofs.lemmas.Grind.{flat_map-append}
use Rattle.std.proofs.lemmas.List.{reverse-append, reverse-reverse}
use Rattle.std.proofs.lemmas.List.Elements.{filter-append}
use Rattle.std.proofs.lemmas.List.Folds.{list_all-append}
use Rattle.std.proofs.lemmas.Slice.Eq.{bytes_eq-Decides}
use Rattle.up_text.proofs.Readings.{take_while-all}
use Rattle.up_text.specs.Tokens.{Mark, Part, Quoting, Folded, Alone, Blank, Passed, Stop, Fail, Mode, Outside, Comment, Escaped, Continued, Quoted, QuotedEscape, marks, end_marks}
use Rattle.up_text.specs.Places.{Place, is_space, command_bytes, fault_in}
use Rattle.up_text.specs.Commands.{command_marks_at, trim_blanks, command_in}
use Rattle.up_image.specs.Definable.{is_token_byte, is_command}
use Rattle.up_image.proofs.Bounds.{max_text}
use Rattle.up_image.proofs.Thinning.{told_text, told_bytes, told_short}
use Rattle.up_image.proofs.Spelling.{Good}
use Rattle.up_image.proofs.Rereading.{goes_on, is_quoted, Follows, front_marks, told}
use Rattle.up_image.proofs.GivenCommands.{trimmed, front_dropped, back_dropped, follows_rest, text_before, emits, emitted_same, marks_again}

-- the marks of the command's own text have no blanks at the ends

trim_same : (ms : List Mark) → prefix_len is_space ms ≡ 0 → suffix_len is_space ms ≡ 0 → trim_blanks ms ≡ ms
trim_same ms starts ends =
    ap (λ n. take (length (drop n ms) - suffix_len is_space (drop n ms)) (drop n ms)) starts ∙ ap (λ k. take (length ms - k) ms) ends ∙ take_all (length ms - 0) ms (omega arith)

emits_first : (ms : List Mark) → Follows (Outside false) ms → prefix_len is_space ms ≡ 0 → prefix_len is_space (filter emits ms) ≡ 0
emits_first [] follows starts = refl
emits_first (Part b ∷ ms) follows starts = refl
emits_first (Quoting b ∷ ms) follows starts = refl
emits_first (Blank b ∷ ms) follows starts = absurd (omega (arith, starts))
emits_first (Passed ∷ ms) follows starts = absurd (omega (arith, starts))
emits_first (Folded ∷ ms) (next, stays, later) starts = absurd (false≢true stays.0)
emits_first (Alone b ∷ ms) (next, never, later) starts = absurd never
emits_first (Stop ∷ ms) (next, never, later) starts = absurd never
emits_first (Fail fault ∷ ms) (next, never, later) starts = absurd never

quoted_goes_on : (mode : Mode) → is_quoted mode ≡ true → end_marks mode ≡ [] → ⊥
quoted_goes_on (Outside joined) quoted ends = false≢true quoted
quoted_goes_on Comment quoted ends = false≢true quoted
quoted_goes_on Escaped quoted ends = false≢true quoted
quoted_goes_on (Continued joined) quoted ends = false≢true quoted
quoted_goes_on (Quoted quote joined) quoted ends = cc
quoted_goes_on (QuotedEscape quote) quoted ends = false≢true quoted

last_emits : (mode : Mode) (mark : Mark) → is_space mark ≡ false → Follows mode (mark ∷ []) → emits mark ≡ true
last_emits mode (Part b) solid follows = refl
last_emits mode (Quoting b) solid follows = refl
last_emits mode (Blank b) solid follows = refl
last_emits mode Passed solid follows = absurd (true≢false solid)
last_emits mode Folded solid (next, stays, ends) = absurd (quoted_goes_on mode stays.0 (ap end_marks stays.1 ∙ ends))
last_emits mode (Alone b) solid (next, never, ends) = absurd never
last_emits mode Stop solid (next, never, ends) = absurd never
last_emits mode (Fail fault) solid (next, never, ends) = absurd never

solid_first : (mark : Mark) (later : List Mark) → prefix_len is_space (mark ∷ later) ≡ 0 → is_space mark ≡ false
solid_first mark later none = elim (is_space mark) as (λ b. cond b (1 + prefix_len is_space later) 0 ≡ 0 → b ≡ false) [
  | true ↦ λ some. absurd (omega (arith, some))
  | false ↦ λ stop. refl
] none

solid_last : (front : List Mark) (mark : Mark) → is_space mark ≡ false → suffix_len is_space (front ++ mark ∷ []) ≡ 0
solid_last front mark solid = ap (prefix_len is_space) (reverse-append front (mark ∷ [])) ∙ (rw solid refl)

emits_last : (ms : List Mark) → Follows (Outside false) ms → suffix_len is_space ms ≡ 0 → suffix_len is_space (filter emits ms) ≡ 0
emits_last ms follows ends = by_turned (reverse ms) refl
  where
    by_turned : (turned : List Mark) → reverse ms ≡ turned → suffix_len is_space (filter emits ms) ≡ 0
    by_turned [] is =
        let none : ms ≡ [] = sym (reverse-reverse ms) ∙ ap reverse is in
        ap (λ xs. suffix_len is_space (filter emits xs)) none
    by_turned (mark ∷ later) is =
        let split : ms ≡ reverse later ++ mark ∷ [] = sym (reverse-reverse ms) ∙ ap reverse is ∙ reverse-append (mark ∷ []) later in
        let solid : is_space mark ≡ false = solid_first mark later (ap (prefix_len is_space) (sym is) ∙ ends) in
        let at = follows_rest (Outside false) (reverse later) (mark ∷ []) (subst (Follows (Outside false)) split follows) in
        let some : emits mark ≡ true = last_emits at.0 mark solid at.1 in
        let one : filter emits (mark ∷ []) ≡ mark ∷ [] = ap (λ b. cond b (mark ∷ []) []) some in
        ap (λ xs. suffix_len is_space (filter emits xs)) split
        ∙ ap (suffix_len is_space) (filter-append emits (reverse later) (mark ∷ []))
        ∙ ap (λ xs. suffix_len is_space (filter emits (reverse later) ++ xs)) one
        ∙ solid_last (filter emits (reverse later)) mark solid

emitted_on : (ms : List Mark) → list_all goes_on (filter emits ms) ≡ true
emitted_on [] = refl
emitted_on (Part b ∷ ms) = emitted_on ms
emitted_on (Quoting b ∷ ms) = emitted_on ms
emitted_on (Blank b ∷ ms) = emitted_on ms
emitted_on (Passed ∷ ms) = emitted_on ms
emitted_on (Folded ∷ ms) = emitted_on ms
emitted_on (Alone b ∷ ms) = emitted_on ms
emitted_on (Stop ∷ ms) = emitted_on ms
emitted_on (Fail fault ∷ ms) = emitted_on ms

emitted_sound : (ms : List Mark) → is_none (fault_in (filter emits ms)) ≡ true
emitted_sound [] = refl
emitted_sound (Part b ∷ ms) = emitted_sound ms
emitted_sound (Quoting b ∷ ms) = emitted_sound ms
emitted_sound (Blank b ∷ ms) = emitted_sound ms
emitted_sound (Passed ∷ ms) = emitted_sound ms
emitted_sound (Folded ∷ ms) = emitted_sound ms
emitted_sound (Alone b ∷ ms) = emitted_sound ms
emitted_sound (Stop ∷ ms) = emitted_sound ms
emitted_sound (Fail fault ∷ ms) = emitted_sound ms

-- marks that are read as themselves
read_again : (ms : List Mark) → Follows (Outside false) ms → prefix_len is_space ms ≡ 0 → suffix_len is_space ms ≡ 0 → is_command (flat_map command_bytes ms) ≡ true
unfolding is_command command_marks_at
read_again ms follows starts ends =
    let text = flat_map command_bytes ms in
    let own = filter emits ms in
    let same : take_while goes_on (marks false 0 (Outside false) text) ≡ own = ap (take_while goes_on) (marks_again ms (Outside false) follows) ∙ take_while-all goes_on own (emitted_on ms) in
    let says : command_in own ≡ text = ap (flat_map command_bytes) (trim_same own (emits_first ms follows starts) (emits_last ms follows ends)) ∙ emitted_same ms (Outside false) follows in
    ap (λ found. is_none (fault_in found) && bytes_eq (command_in found) text) same ∙ and_from _ _ (emitted_sound ms) ((bytes_eq-Decides (command_in own) text).1 says)

-- the text of a command

pub record CommandGood (text : List ℕ) : Type 0 where
  pub utf8 : IsUtf8 text
  pub bytes : list_all is_token_byte text ≡ true
  pub short : length text ≤ max_text
  pub again : is_command text ≡ true
  pub ms : List Mark
  pub follows : Follows (Outside false) ms
  pub starts : prefix_len is_space ms ≡ 0
  pub same : text ≡ flat_map command_bytes ms

command_told : (text : List ℕ) → Good text → fault_in (front_marks (Outside false) text) ≡ None → CommandGood (flat_map command_bytes (trim_blanks (front_marks (Outside false) text)))
command_told text good sound =
    let ms = front_marks (Outside false) text in
    let all = told (Outside false) text tt in
    let tr = trimmed ms in
    let whole = flat_map command_bytes ms in
    let split : whole ≡ flat_map command_bytes tr.front ++ (flat_map command_bytes tr.middle ++ flat_map command_bytes tr.back) =
    ap (flat_map command_bytes) tr.whole ∙ flat_map-append command_bytes tr.front (tr.middle ++ tr.back) ∙ ap (λ t. flat_map command_bytes tr.front ++ t) (flat_map-append command_bytes tr.middle tr.back) in
    let follows : Follows (Outside false) (tr.front ++ (tr.middle ++ tr.back)) = subst (Follows (Outside false)) tr.whole (all.follows sound) in
    let utf8 : IsUtf8 (flat_map command_bytes (tr.front ++ (tr.middle ++ tr.back))) = subst (λ xs. IsUtf8 (flat_map command_bytes xs)) tr.whole (told_text command_bytes [] text ms good.utf8 all.tells) in
    let later = front_dropped (Outside false) tr.front (tr.middle ++ tr.back) refl tr.before follows utf8 in
    let last = follows_rest (Outside false) tr.middle tr.back later.follows in
    let own : Follows (Outside false) tr.middle = back_dropped (Outside false) tr.middle tr.back tr.after later.follows in
    let bytes : list_all is_token_byte (flat_map command_bytes tr.front ++ (flat_map command_bytes tr.middle ++ flat_map command_bytes tr.back)) ≡ true = ap (list_all is_token_byte) (sym split) ∙ told_bytes command_bytes text ms good.clean all.tells in
    let some : (list_all is_token_byte (flat_map command_bytes tr.front) ≡ true) × (list_all is_token_byte (flat_map command_bytes tr.middle ++ flat_map command_bytes tr.back) ≡ true) = and_parts _ _ (sym (list_all-append is_token_byte (flat_map command_bytes tr.front) (flat_map command_bytes tr.middle ++ flat_map command_bytes tr.back)) ∙ bytes) in
    let mid : (list_all is_token_byte (flat_map command_bytes tr.middle) ≡ true) × (list_all is_token_byte (flat_map command_bytes tr.back) ≡ true) = and_parts _ _ (sym (list_all-append is_token_byte (flat_map command_bytes tr.middle) (flat_map command_bytes tr.back)) ∙ some.1) in
    subst CommandGood (ap (flat_map command_bytes) (sym tr.is)) (record {
      utf8 = text_before (flat_map command_bytes tr.middle) last.0 tr.back tr.after last.1 (subst IsUtf8 (flat_map-append command_bytes tr.middle tr.back) later.utf8);
      bytes = mid.0;
      short = omega (arith, told_short command_bytes text ms all.tells, good.short, ap length split, length-append (flat_map command_bytes tr.front) (flat_map command_bytes tr.middle ++ flat_map command_bytes tr.back), length-append (flat_map command_bytes tr.middle) (flat_map command_bytes tr.back));
      again = read_again tr.middle own tr.starts tr.ends;
      ms = tr.middle;
      follows = own;
      starts = tr.starts;
      same = refl;
    })

pub command_good : (place : Place) → Good place.rest → fault_in (command_marks_at place) ≡ None → CommandGood (command_in (command_marks_at place))
unfolding command_marks_at
command_good place good sound = command_told place.rest good sound
