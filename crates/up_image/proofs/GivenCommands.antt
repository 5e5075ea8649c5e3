-- The text of a command can be given: it is read as itself.
use Rattle.std.proofs.Common.{◌≡◌, ℕ, ◌+◌, ◌-◌, ◌<◌, ◌≤◌, Bool, true, false, cond, ◌&&◌, ◌||◌, ◌==◌, List, [], ◌∷◌, ◌++◌, length, take, drop, reverse, refl, sym, ap, ◌∙◌, subst, arith, one-add, append-nil, length-drop, flat_map, filter, IsUtf8, take-append-drop}
use Rattle.std.specs.List.{list_all, list_any, prefix_len, suffix_len}
use Rattle.std.proofs.lemmas.Bool.{and_from, and_parts, or_parts, or_from, false≢true}
use Rattle.std.proofs.lemmas.List.{take_at, length-reverse, reverse-append, reverse-reverse}
use Rattle.std.proofs.lemmas.List.Folds.{list_all-append}
use Rattle.up_text.proofs.Cuts.{list_all-take}
use Rattle.up_text.specs.Lists.{begins}
use Rattle.up_text.specs.Tokens.{Mark, Part, Quoting, Folded, Alone, Blank, Passed, Stop, Fail, Mode, Outside, Comment, Escaped, Continued, Quoted, QuotedEscape, marks, mark_of, mark_quoted, mode_after, open_after, end_marks, is_line_feed, is_blank, is_hash, is_quote, is_backslash, reaches_feed}
use Rattle.up_text.specs.Places.{is_space, command_bytes}
use Rattle.up_text.specs.Commands.{trim_blanks}
use Rattle.up_image.proofs.Thinning.{before_cut, tail_text}
use Rattle.up_image.proofs.Spelling.{blank_low}
use Rattle.up_image.proofs.Rereading.{Again, Follows}

-- lists without what passes at both ends

pub record Trimmed (ms : List Mark) : Type 0 where
  pub front : List Mark
  pub middle : List Mark
  pub back : List Mark
  pub whole : ms ≡ front ++ (middle ++ back)
  pub before : list_all is_space front ≡ true
  pub after : list_all is_space back ≡ true
  pub is : trim_blanks ms ≡ middle
  pub starts : prefix_len is_space middle ≡ 0
  pub ends : suffix_len is_space middle ≡ 0

prefix_none : {X : Type 0} (p : X → Bool) (xs : List X) → prefix_len p (drop (prefix_len p xs) xs) ≡ 0
prefix_none p [] = refl
prefix_none p (x ∷ xs) = elim (p x) as (λ b. p x ≡ b → prefix_len p (drop (cond b (1 + prefix_len p xs) 0) (x ∷ xs)) ≡ 0) [
  | true ↦ λ _. rw one-add (prefix_none p xs)
  | false ↦ λ stop. rw stop refl
] refl

prefix_short : {X : Type 0} (p : X → Bool) (xs : List X) → prefix_len p xs ≤ length xs
prefix_short p [] = omega arith
prefix_short p (x ∷ xs) = elim (p x) as (λ b. cond b (1 + prefix_len p xs) 0 ≤ length (x ∷ xs)) [
  | true ↦ omega (arith, prefix_short p xs)
  | false ↦ omega arith
]

prefix_first : {X : Type 0} (p : X → Bool) (middle back : List X) → prefix_len p (middle ++ back) ≡ 0 → prefix_len p middle ≡ 0
prefix_first p [] back none = refl
prefix_first p (x ∷ middle) back none = elim (p x) as (λ b. cond b (1 + prefix_len p (middle ++ back)) 0 ≡ 0 → cond b (1 + prefix_len p middle) 0 ≡ 0) [
  | true ↦ λ some. absurd (omega (arith, some))
  | false ↦ λ stop. refl
] none

all_reverse : {X : Type 0} (p : X → Bool) (xs : List X) → list_all p xs ≡ true → list_all p (reverse xs) ≡ true
all_reverse p [] all = refl
all_reverse p (x ∷ xs) all =
    let both = and_parts (p x) (list_all p xs) all in
    ap (list_all p) (reverse-append (x ∷ []) xs) ∙ list_all-append p (reverse xs) (x ∷ []) ∙ and_from _ _ (all_reverse p xs both.1) (and_from _ _ both.0 refl)

pub trimmed : (ms : List Mark) → Trimmed ms
trimmed ms =
    let n = prefix_len is_space ms in
    let body = drop n ms in
    let turned = reverse body in
    let s = suffix_len is_space body in
    let middle = reverse (drop s turned) in
    let back = reverse (take s turned) in
    let split : middle ++ back ≡ body = sym (reverse-append (take s turned) (drop s turned)) ∙ ap reverse (take-append-drop s turned) ∙ reverse-reverse body in
    let size : length middle ≡ length body - s = omega (arith, length-reverse (drop s turned), length-drop s turned, length-reverse body) in
    record {
      front = take n ms;
      middle = middle;
      back = back;
      whole = sym (take-append-drop n ms) ∙ ap (λ b. take n ms ++ b) (sym split);
      before = list_all-take is_space ms;
      after = all_reverse is_space (take s turned) (list_all-take is_space turned);
      is = ap (take (length body - s)) (sym split) ∙ take_at middle back (length body - s) size;
      starts = prefix_first is_space middle back (ap (prefix_len is_space) split ∙ prefix_none is_space ms);
      ends = ap (prefix_len is_space) (reverse-reverse (drop s turned)) ∙ prefix_none is_space turned;
    }

-- marks that follow

outside_blank : (joined : Bool) (b : ℕ) → mark_of false 0 (Outside joined) b [] ≡ Blank b → is_blank b ≡ true
outside_blank joined b is = by_case (is_line_feed b) (is_blank b) joined (is_hash b) (is_backslash b) (is_quote b) refl is
  where
    by_case : (f l j h k q : Bool) → is_blank b ≡ l → cond f Stop (cond l (cond (j || false) Passed (Blank b)) (cond h Passed (cond k (Quoting b) (cond q (Quoting b) (Part b))))) ≡ Blank b → is_blank b ≡ true
    by_case true l j h k q el is = absurd (cc)
    by_case false true j h k q el is = el
    by_case false false j true k q el is = absurd (cc)
    by_case false false j false true q el is = absurd (cc)
    by_case false false j false false true el is = absurd (cc)
    by_case false false j false false false el is = absurd (cc)

quoted_no_blank : (quote : ℕ) (joined : Bool) (b : ℕ) → mark_quoted quote joined b [] ≡ Blank b → ⊥
quoted_no_blank quote joined b is = by_case (b == quote) (is_line_feed b) joined (is_blank b) (is_backslash b) is
  where
    by_case : (s f j l k : Bool) → cond s (Quoting b) (cond f (cond j Folded (Part 32)) (cond l (cond (j || false) Folded (Part b)) (cond k (Quoting b) (Part b)))) ≡ Blank b → ⊥
    by_case true f j l k is = cc
    by_case false true true l k is = cc
    by_case false true false l k is = cc
    by_case false false true true k is = cc
    by_case false false false true k is = cc
    by_case false false j false true is = cc
    by_case false false j false false is = cc

comment_no_blank : (b : ℕ) → mark_of false 0 Comment b [] ≡ Blank b → ⊥
comment_no_blank b is = by_case (is_line_feed b) is
  where
    by_case : (f : Bool) → cond f Stop Passed ≡ Blank b → ⊥
    by_case true is = cc
    by_case false is = cc

blank_stands : (mode : Mode) (b : ℕ) → mark_of false 0 mode b [] ≡ Blank b → (b < 128) × (end_marks mode ≡ [])
blank_stands (Outside joined) b is = (blank_low b (outside_blank joined b is), refl)
blank_stands Comment b is = absurd (comment_no_blank b is)
blank_stands Escaped b is = absurd (cc)
blank_stands (Continued true) b is = absurd (cc)
blank_stands (Continued false) b is = let same : 32 ≡ b = cc in (omega (arith, same), refl)
blank_stands (Quoted quote joined) b is = absurd (quoted_no_blank quote joined b is)
blank_stands (QuotedEscape quote) b is = absurd (cc)

-- after blanks outside quotes

blank_moves : (b : ℕ) → is_blank b ≡ true → mode_after (Outside false) b [] ≡ Outside false
blank_moves b is = rw is refl

pub record After (middle : List Mark) : Type 0 where
  pub follows : Follows (Outside false) middle
  pub utf8 : IsUtf8 (flat_map command_bytes middle)

pub front_dropped : (mode : Mode) (front middle : List Mark) → mode ≡ Outside false → list_all is_space front ≡ true → Follows mode (front ++ middle) → IsUtf8 (flat_map command_bytes (front ++ middle)) → After middle
front_dropped mode [] middle same spaces follows utf8 = record { follows = subst (λ m. Follows m middle) same follows; utf8 = utf8 }
front_dropped mode (Blank b ∷ front) middle same spaces (next, again, later) utf8 =
    let marked : mark_of false 0 (Outside false) b [] ≡ Blank b = ap (λ m. mark_of false 0 m b []) (sym same) ∙ again.marked in
    let moved : next ≡ Outside false = sym again.moved ∙ ap (λ m. mode_after m b []) same ∙ blank_moves b (outside_blank false b marked) in
    front_dropped next front middle moved spaces later (tail_text b (flat_map command_bytes (front ++ middle)) utf8 (blank_low b (outside_blank false b marked)))
front_dropped mode (Passed ∷ front) middle same spaces (next, stays, later) utf8 = front_dropped next front middle (sym stays.1 ∙ same) spaces later utf8
front_dropped mode (Part b ∷ front) middle same spaces follows utf8 = absurd (false≢true spaces)
front_dropped mode (Quoting b ∷ front) middle same spaces follows utf8 = absurd (false≢true spaces)
front_dropped mode (Folded ∷ front) middle same spaces follows utf8 = absurd (false≢true spaces)
front_dropped mode (Alone b ∷ front) middle same spaces follows utf8 = absurd (false≢true spaces)
front_dropped mode (Stop ∷ front) middle same spaces follows utf8 = absurd (false≢true spaces)
front_dropped mode (Fail fault ∷ front) middle same spaces follows utf8 = absurd (false≢true spaces)

-- where a row of marks ends
spaces_end : (mode : Mode) (back : List Mark) → list_all is_space back ≡ true → Follows mode back → end_marks mode ≡ []
spaces_end mode [] spaces follows = follows
spaces_end mode (Blank b ∷ back) spaces (next, again, later) = (blank_stands mode b again.marked).1
spaces_end mode (Passed ∷ back) spaces (next, stays, later) = ap end_marks stays.1 ∙ spaces_end next back spaces later
spaces_end mode (Part b ∷ back) spaces follows = absurd (false≢true spaces)
spaces_end mode (Quoting b ∷ back) spaces follows = absurd (false≢true spaces)
spaces_end mode (Folded ∷ back) spaces follows = absurd (false≢true spaces)
spaces_end mode (Alone b ∷ back) spaces follows = absurd (false≢true spaces)
spaces_end mode (Stop ∷ back) spaces follows = absurd (false≢true spaces)
spaces_end mode (Fail fault ∷ back) spaces follows = absurd (false≢true spaces)

pub back_dropped : (mode : Mode) (middle back : List Mark) → list_all is_space back ≡ true → Follows mode (middle ++ back) → Follows mode middle
back_dropped mode [] back spaces follows = spaces_end mode back spaces follows
back_dropped mode (mark ∷ middle) back spaces (next, follow, later) = (next, follow, back_dropped next middle back spaces later)

pub follows_rest : (mode : Mode) (front later : List Mark) → Follows mode (front ++ later) → (next : Mode) × Follows next later
follows_rest mode [] later follows = (mode, follows)
follows_rest mode (mark ∷ front) later (next, follow, more) = follows_rest next front later more

pub text_before : (pending : List ℕ) (mode : Mode) (back : List Mark) → list_all is_space back ≡ true → Follows mode back → IsUtf8 (pending ++ flat_map command_bytes back) → IsUtf8 pending
text_before pending mode [] spaces follows utf8 = subst IsUtf8 (append-nil pending) utf8
text_before pending mode (Blank b ∷ back) spaces (next, again, later) utf8 = before_cut pending b (flat_map command_bytes back) utf8 (blank_stands mode b again.marked).0
text_before pending mode (Passed ∷ back) spaces (next, stays, later) utf8 = text_before pending next back spaces later utf8
text_before pending mode (Part b ∷ back) spaces follows utf8 = absurd (false≢true spaces)
text_before pending mode (Quoting b ∷ back) spaces follows utf8 = absurd (false≢true spaces)
text_before pending mode (Folded ∷ back) spaces follows utf8 = absurd (false≢true spaces)
text_before pending mode (Alone b ∷ back) spaces follows utf8 = absurd (false≢true spaces)
text_before pending mode (Stop ∷ back) spaces follows utf8 = absurd (false≢true spaces)
text_before pending mode (Fail fault ∷ back) spaces follows utf8 = absurd (false≢true spaces)

-- the marks of the command's own text

abbrev pub emits : Mark → Bool
emits (Part b) = true
emits (Quoting b) = true
emits (Blank b) = true
emits other = false

pub emitted_same : (ms : List Mark) → (mode : Mode) → Follows mode ms → flat_map command_bytes (filter emits ms) ≡ flat_map command_bytes ms
emitted_same [] mode follows = refl
emitted_same (Part b ∷ ms) mode (next, again, later) = ap (λ t. b ∷ t) (emitted_same ms next later)
emitted_same (Quoting b ∷ ms) mode (next, again, later) = ap (λ t. b ∷ t) (emitted_same ms next later)
emitted_same (Blank b ∷ ms) mode (next, again, later) = ap (λ t. b ∷ t) (emitted_same ms next later)
emitted_same (Folded ∷ ms) mode (next, stays, later) = emitted_same ms next later
emitted_same (Passed ∷ ms) mode (next, stays, later) = emitted_same ms next later
emitted_same (Alone b ∷ ms) mode (next, never, later) = absurd never
emitted_same (Stop ∷ ms) mode (next, never, later) = absurd never
emitted_same (Fail fault ∷ ms) mode (next, never, later) = absurd never

no_feeds : (ms : List Mark) (mode : Mode) → Follows mode ms → list_any is_line_feed (flat_map command_bytes ms) ≡ false
no_feeds [] mode follows = refl
no_feeds (Part b ∷ ms) mode (next, again, later) = or_from _ _ again.plain (no_feeds ms next later)
no_feeds (Quoting b ∷ ms) mode (next, again, later) = or_from _ _ again.plain (no_feeds ms next later)
no_feeds (Blank b ∷ ms) mode (next, again, later) = or_from _ _ again.plain (no_feeds ms next later)
no_feeds (Folded ∷ ms) mode (next, stays, later) = no_feeds ms next later
no_feeds (Passed ∷ ms) mode (next, stays, later) = no_feeds ms next later
no_feeds (Alone b ∷ ms) mode (next, never, later) = absurd never
no_feeds (Stop ∷ ms) mode (next, never, later) = absurd never
no_feeds (Fail fault ∷ ms) mode (next, never, later) = absurd never

begins_none : (text : List ℕ) → list_any is_line_feed text ≡ false → begins is_line_feed text ≡ false
begins_none [] none = refl
begins_none (b ∷ text) none = (or_parts (is_line_feed b) (list_any is_line_feed text) none).0

reaches_none : (text : List ℕ) → list_any is_line_feed text ≡ false → reaches_feed text ≡ false
reaches_none [] none = refl
reaches_none (b ∷ text) none =
    let parts = or_parts (is_line_feed b) (list_any is_line_feed text) none in
    rw (parts.0, reaches_none text parts.1, begins_none text parts.1) (nothing (is_blank b) (is_backslash b))
  where
    nothing : (l k : Bool) → ((false || (l && false)) || (k && false)) ≡ false
    nothing true true = refl
    nothing true false = refl
    nothing false true = refl
    nothing false false = refl

marked_alike : (mode : Mode) (b : ℕ) (text : List ℕ) → begins is_line_feed text ≡ false → reaches_feed text ≡ false → mark_of false 0 mode b text ≡ mark_of false 0 mode b []
marked_alike (Outside joined) b text none never = rw (none, never) refl
marked_alike Comment b text none never = refl
marked_alike Escaped b text none never = refl
marked_alike (Continued joined) b text none never = refl
marked_alike (Quoted quote joined) b text none never = rw (none, never) refl
marked_alike (QuotedEscape quote) b text none never = refl

moved_alike : (mode : Mode) (b : ℕ) (text : List ℕ) → begins is_line_feed text ≡ false → mode_after mode b text ≡ mode_after mode b []
moved_alike (Outside joined) b text none = rw none refl
moved_alike Comment b text none = refl
moved_alike Escaped b text none = refl
moved_alike (Continued joined) b text none = refl
moved_alike (Quoted quote joined) b text none = rw none refl
moved_alike (QuotedEscape quote) b text none = refl

marks_step : (mode : Mode) (b : ℕ) (text : List ℕ) (mark : Mark) (next : Mode) (later : List Mark) → list_any is_line_feed text ≡ false → Again mode b mark next → open_after 0 mark ≡ 0 → marks false 0 next text ≡ later → marks false 0 mode (b ∷ text) ≡ mark ∷ later
marks_step mode b text mark next later none again level rest =
    let marked : mark_of false 0 mode b text ≡ mark = marked_alike mode b text (begins_none text none) (reaches_none text none) ∙ again.marked in
    let moved : mode_after mode b text ≡ next = moved_alike mode b text (begins_none text none) ∙ again.moved in
    ap (λ m. m ∷ marks false (open_after 0 m) (mode_after mode b text) text) marked
    ∙ ap (λ n. mark ∷ marks false n (mode_after mode b text) text) level
    ∙ ap (λ m. mark ∷ marks false 0 m text) moved
    ∙ ap (λ ms. mark ∷ ms) rest

pub marks_again : (ms : List Mark) (mode : Mode) → Follows mode ms → marks false 0 mode (flat_map command_bytes ms) ≡ filter emits ms
marks_again [] mode follows = follows
marks_again (Part b ∷ ms) mode (next, again, later) = marks_step mode b (flat_map command_bytes ms) (Part b) next (filter emits ms) (no_feeds ms next later) again refl (marks_again ms next later)
marks_again (Quoting b ∷ ms) mode (next, again, later) = marks_step mode b (flat_map command_bytes ms) (Quoting b) next (filter emits ms) (no_feeds ms next later) again refl (marks_again ms next later)
marks_again (Blank b ∷ ms) mode (next, again, later) = marks_step mode b (flat_map command_bytes ms) (Blank b) next (filter emits ms) (no_feeds ms next later) again refl (marks_again ms next later)
marks_again (Folded ∷ ms) mode (next, stays, later) = ap (λ m. marks false 0 m (flat_map command_bytes ms)) stays.1 ∙ marks_again ms next later
marks_again (Passed ∷ ms) mode (next, stays, later) = ap (λ m. marks false 0 m (flat_map command_bytes ms)) stays.1 ∙ marks_again ms next later
marks_again (Alone b ∷ ms) mode (next, never, later) = absurd never
marks_again (Stop ∷ ms) mode (next, never, later) = absurd never
marks_again (Fail fault ∷ ms) mode (next, never, later) = absurd never
