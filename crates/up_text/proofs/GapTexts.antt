-- What a gap inside a command is written as.
use Rattle.std.proofs.Common.{◌≡◌, ℕ, Bool, true, false, cond, ◌&&◌, ◌||◌, List, [], ◌∷◌, ◌++◌, Option, length, map, refl, sym, ap, ◌∙◌, arith, append_assoc, append-nil, length-append}
use Rattle.std.proofs.lemmas.Bool.{and_parts, and_from, or_parts, true≢false, false≢true}
use Rattle.std.proofs.lemmas.Grind.{flat_map-append}
use Rattle.std.proofs.lemmas.List.{length-map, nil_from_length}
use Rattle.std.proofs.lemmas.List.Folds.{list_all-append}
use Rattle.std.specs.List.{list_all, flat_map, prefix_len}
use Rattle.up_text.proofs.Gaps.{ends-gap_mark, without_joining}
use Rattle.up_text.proofs.Runs.{blank-is, backslash-is, reaches-blanks, feeds-none, feeds-append, Holds-same}
use Rattle.up_text.specs.CommandParts.{marks_in, Between}
use Rattle.up_text.specs.Lexer.{is_line_end, begins_joint, begins_fold, begins_gap, Splits, GapRun, Holds}
use Rattle.up_text.specs.Places.{is_space, is_gap, command_bytes}
use Rattle.up_text.specs.Tokens.{Mark, Part, Quoting, Blank, Passed, Stop, Mode, Outside, Comment, Escaped, Continued, Quoted, QuotedEscape, end_marks, marks, mark_of, mark_outside, mode_after, open_after, is_line_feed, is_blank, is_hash, is_quote, is_backslash}
use Rattle.up_pattern.specs.Lists.{begins}

-- modes in which nothing more of a gap is written

abbrev is_silent : Mode → Bool
is_silent (Outside joined) = joined
is_silent Comment = true
is_silent (Continued joined) = joined
is_silent Escaped = false
is_silent (Quoted quote joined) = false
is_silent (QuotedEscape quote) = false

record Silent (mode : Mode) (byte : ℕ) (text : List ℕ) : Type 0 where
  passed : mark_of false 0 mode byte text ≡ Passed
  stays : is_silent (mode_after mode byte text) ≡ true

silent-outside : (byte : ℕ) (text : List ℕ) → is_space (mark_of false 0 (Outside true) byte text) ≡ true → Silent (Outside true) byte text
silent-outside byte text space =
    by_case (is_line_feed byte) (is_blank byte) (is_hash byte) (is_backslash byte) (begins is_line_feed text) (is_quote byte) refl refl refl refl refl refl space
  where
    by_case : (f b h k j q : Bool) → is_line_feed byte ≡ f → is_blank byte ≡ b → is_hash byte ≡ h → is_backslash byte ≡ k → begins is_line_feed text ≡ j → is_quote byte ≡ q
        → is_space (cond f Stop (cond b Passed (cond h Passed (cond k (cond j Passed (Quoting byte)) (cond q (Quoting byte) (Part byte)))))) ≡ true
        → Silent (Outside true) byte text
    by_case true b h k j q ef eb eh ek ej eq is = absurd (false≢true is)
    by_case false true h k j q ef eb eh ek ej eq is = record { passed = rw (ef, eb) refl; stays = rw eb refl }
    by_case false false true k j q ef eb eh ek ej eq is = record { passed = rw (ef, eb, eh) refl; stays = rw (eb, eh) refl }
    by_case false false false true true q ef eb eh ek ej eq is = record { passed = rw (ef, eb, eh, ek, ej) refl; stays = rw (eb, eh, ek, ej) refl }
    by_case false false false true false q ef eb eh ek ej eq is = absurd (false≢true is)
    by_case false false false false j true ef eb eh ek ej eq is = absurd (false≢true is)
    by_case false false false false j false ef eb eh ek ej eq is = absurd (false≢true is)

silent-comment : (byte : ℕ) (text : List ℕ) → is_space (mark_of false 0 Comment byte text) ≡ true → Silent Comment byte text
silent-comment byte text space = by_case (is_line_feed byte) refl space
  where
    by_case : (f : Bool) → is_line_feed byte ≡ f → is_space (cond f Stop Passed) ≡ true → Silent Comment byte text
    by_case true ef is = absurd (false≢true is)
    by_case false ef is = record { passed = rw ef refl; stays = rw ef refl }

silent-space : (mode : Mode) (byte : ℕ) (text : List ℕ) → is_silent mode ≡ true → is_space (mark_of false 0 mode byte text) ≡ true → Silent mode byte text
silent-space (Outside true) byte text silent space = silent-outside byte text space
silent-space (Outside false) byte text silent space = absurd (false≢true silent)
silent-space Comment byte text silent space = silent-comment byte text space
silent-space (Continued true) byte text silent space = record { passed = refl; stays = refl }
silent-space (Continued false) byte text silent space = absurd (false≢true silent)
silent-space Escaped byte text silent space = absurd (false≢true silent)
silent-space (Quoted quote joined) byte text silent space = absurd (false≢true silent)
silent-space (QuotedEscape quote) byte text silent space = absurd (false≢true silent)

silent-end : (mode : Mode) (mark : Mark) (ms : List Mark) → is_silent mode ≡ true → end_marks mode ≡ mark ∷ ms → ⊥
silent-end (Outside joined) mark ms silent is = cc
silent-end Comment mark ms silent is = cc
silent-end (Continued joined) mark ms silent is = cc
silent-end Escaped mark ms silent is = false≢true silent
silent-end (Quoted quote joined) mark ms silent is = false≢true silent
silent-end (QuotedEscape quote) mark ms silent is = false≢true silent

nothing-written : (mode : Mode) (text : List ℕ) (front later : List Mark) → is_silent mode ≡ true → marks false 0 mode text ≡ front ++ later → list_all is_space front ≡ true → flat_map command_bytes front ≡ []
nothing-written mode text [] later silent same spaces = refl
nothing-written mode [] (mark ∷ front) later silent same spaces = absurd (silent-end mode mark (front ++ later) silent same)
nothing-written mode (byte ∷ text) (mark ∷ front) later silent same spaces =
    let both = and_parts (is_space mark) (list_all is_space front) spaces in
    let first : mark_of false 0 mode byte text ≡ mark = cc in
    let is = silent-space mode byte text silent (ap is_space first ∙ both.0) in
    let passed : mark ≡ Passed = sym first ∙ is.passed in
    let rest : marks false (open_after 0 (mark_of false 0 mode byte text)) (mode_after mode byte text) text ≡ front ++ later = cc in
    let more : marks false 0 (mode_after mode byte text) text ≡ front ++ later = rw is.passed at rest in
    rw passed (nothing-written (mode_after mode byte text) text front later is.stays more both.1)

-- where no blank and no joined line begins a gap, nothing of it is written
pub unblanked-written : (text : List ℕ) (front later : List Mark) → begins is_blank text ≡ false → begins_joint text ≡ false → marks_in text ≡ front ++ later → list_all is_space front ≡ true → flat_map command_bytes front ≡ []
unblanked-written text [] later blank joint same spaces = refl
unblanked-written [] (mark ∷ front) later blank joint same spaces = absurd (cc)
unblanked-written (byte ∷ text) (mark ∷ front) later blank joint same spaces =
    let both = and_parts (is_space mark) (list_all is_space front) spaces in
    let first : mark_of false 0 (Outside false) byte text ≡ mark = cc in
    let rest : marks false (open_after 0 (mark_of false 0 (Outside false) byte text)) (mode_after (Outside false) byte text) text ≡ front ++ later = cc in
    by_case (is_line_feed byte) (is_hash byte) (is_backslash byte) (begins is_line_feed text) (is_quote byte) refl refl refl refl refl joint first both rest
  where
    by_case : (f h k j q : Bool) → is_line_feed byte ≡ f → is_hash byte ≡ h → is_backslash byte ≡ k → begins is_line_feed text ≡ j → is_quote byte ≡ q → (k && j) ≡ false
        → mark_of false 0 (Outside false) byte text ≡ mark → (is_space mark ≡ true) × (list_all is_space front ≡ true)
        → marks false (open_after 0 (mark_of false 0 (Outside false) byte text)) (mode_after (Outside false) byte text) text ≡ front ++ later → flat_map command_bytes (mark ∷ front) ≡ []
    by_case true h k j q ef eh ek ej eq other first both rest =
        let stop : mark_of false 0 (Outside false) byte text ≡ Stop = rw ef refl in
        absurd (false≢true (ap is_space (sym stop ∙ first) ∙ both.0))
    by_case false true k j q ef eh ek ej eq other first both rest =
        let passed : mark ≡ Passed = sym first ∙ rw (ef, blank, eh) refl in
        let more : marks false 0 Comment text ≡ front ++ later = rw (ef, blank, eh) at rest in
        rw passed (nothing-written Comment text front later refl more both.1)
    by_case false false true true q ef eh ek ej eq other first both rest = absurd (true≢false other)
    by_case false false true false q ef eh ek ej eq other first both rest =
        let quoting : mark_of false 0 (Outside false) byte text ≡ Quoting byte = rw (ef, blank, eh, ek, ej) refl in
        absurd (false≢true (ap is_space (sym quoting ∙ first) ∙ both.0))
    by_case false false false j true ef eh ek ej eq other first both rest =
        let quoting : mark_of false 0 (Outside false) byte text ≡ Quoting byte = rw (ef, blank, eh, ek, eq) refl in
        absurd (false≢true (ap is_space (sym quoting ∙ first) ∙ both.0))
    by_case false false false j false ef eh ek ej eq other first both rest =
        let part : mark_of false 0 (Outside false) byte text ≡ Part byte = rw (ef, blank, eh, ek, eq) refl in
        absurd (false≢true (ap is_space (sym part ∙ first) ∙ both.0))

-- where a joined line begins it, one space is
joint-marks : (byte feed : ℕ) (text : List ℕ) → is_backslash byte ≡ true → is_line_feed feed ≡ true → marks_in (byte ∷ feed ∷ text) ≡ Passed ∷ Blank 32 ∷ marks false 0 (Outside true) text
joint-marks byte feed text backslash is_feed =
    let is = backslash-is byte backslash in
    simp (is.0, is.1, is.2, backslash, is_feed)

pub joint-written : (text : List ℕ) (front later : List Mark) → begins_joint text ≡ true → marks_in text ≡ front ++ later → list_all is_space front ≡ true → prefix_len is_space later ≡ 0 → flat_map command_bytes front ≡ 32 ∷ []
joint-written [] front later joint same spaces ends = absurd (false≢true joint)
joint-written (byte ∷ []) front later joint same spaces ends = absurd (false≢true ((and_parts (is_backslash byte) false joint).1))
joint-written (byte ∷ feed ∷ text) front later joint same spaces ends =
    let both = and_parts (is_backslash byte) (is_line_feed feed) joint in
    by_front front (sym (joint-marks byte feed text both.0 both.1) ∙ same) spaces
  where
    by_front : (front : List Mark) → Passed ∷ Blank 32 ∷ marks false 0 (Outside true) text ≡ front ++ later → list_all is_space front ≡ true → flat_map command_bytes front ≡ 32 ∷ []
    by_front [] same spaces = absurd (no_space later same ends)
      where
        no_space : (later : List Mark) → Passed ∷ Blank 32 ∷ marks false 0 (Outside true) text ≡ later → prefix_len is_space later ≡ 0 → ⊥
        no_space later is none = let some = ap (prefix_len is_space) is ∙ none in omega (arith, some)
    by_front (mark ∷ []) same spaces =
        let rest : Blank 32 ∷ marks false 0 (Outside true) text ≡ later = cc in
        let some = ap (prefix_len is_space) rest ∙ ends in
        absurd (omega (arith, some))
    by_front (mark ∷ next ∷ front) same spaces =
        let first : Passed ≡ mark = cc in
        let second : Blank 32 ≡ next = cc in
        let rest : marks false 0 (Outside true) text ≡ front ++ later = cc in
        let a = and_parts (is_space mark) (is_space next && list_all is_space front) spaces in
        let b = and_parts (is_space next) (list_all is_space front) a.1 in
        rw (← first, ← second) (ap (λ bytes. 32 ∷ bytes) (nothing-written (Outside true) text front later refl rest b.1))

-- the blanks before it

abbrev gap_mark : Bool → ℕ → Mark
gap_mark folds byte = cond folds Passed (Blank byte)

open-blank : (folds : Bool) (byte : ℕ) → open_after 0 (cond folds Passed (Blank byte)) ≡ 0
open-blank true byte = refl
open-blank false byte = refl

marks-gap_blanks : (blanks rest : List ℕ) → list_all is_blank blanks ≡ true → begins is_blank rest ≡ false → marks_in (blanks ++ rest) ≡ map (gap_mark (begins_fold rest)) blanks ++ marks_in rest
marks-gap_blanks [] rest all ends = refl
marks-gap_blanks (byte ∷ blanks) rest all ends =
    let both = and_parts (is_blank byte) (list_all is_blank blanks) all in
    let is = blank-is byte both.0 in
    simp (is.0, both.0, reaches-blanks blanks rest both.1 ends, open-blank) (ap (λ ms. gap_mark (begins_fold rest) byte ∷ ms) (marks-gap_blanks blanks rest both.1 ends))

spaces-blanks : (folds : Bool) (blanks : List ℕ) → list_all is_space (map (gap_mark folds) blanks) ≡ true
spaces-blanks folds [] = refl
spaces-blanks true (byte ∷ blanks) = spaces-blanks true blanks
spaces-blanks false (byte ∷ blanks) = spaces-blanks false blanks

written-folded : (blanks : List ℕ) → flat_map command_bytes (map (gap_mark true) blanks) ≡ []
written-folded [] = refl
written-folded (byte ∷ blanks) = written-folded blanks

written-blanks : (blanks : List ℕ) → flat_map command_bytes (map (gap_mark false) blanks) ≡ blanks
written-blanks [] = refl
written-blanks (byte ∷ blanks) = ap (λ bytes. byte ∷ bytes) (written-blanks blanks)

-- inside a stanza a gap has no stanza's end in it
pub gap-spaces : (front : List Mark) → list_all (is_gap true) front ≡ true → list_all is_space front ≡ true
gap-spaces [] all = refl
gap-spaces (mark ∷ front) all =
    let both = and_parts (is_gap true mark) (list_all (is_gap true) front) all in
    and_from _ _ (by_case (is_space mark) both.0) (gap-spaces front both.1)
  where
    by_case : (b : Bool) → (b || false) ≡ true → b ≡ true
    by_case true is = refl
    by_case false is = is

feed-none : (byte : ℕ) (text : List ℕ) (front later : List Mark) → is_line_feed byte ≡ true → marks_in (byte ∷ text) ≡ front ++ later → list_all is_space front ≡ true → front ≡ []
feed-none byte text [] later feed same spaces = refl
feed-none byte text (mark ∷ front) later feed same spaces =
    let both = and_parts (is_space mark) (list_all is_space front) spaces in
    let first : mark_of false 0 (Outside false) byte text ≡ mark = cc in
    let stop : mark_of false 0 (Outside false) byte text ≡ Stop = rw feed refl in
    absurd (false≢true (ap is_space (sym stop ∙ first) ∙ both.0))

-- a stanza's end is no gap's part
feed-stays : (rest bytes after : List ℕ) (front later : List Mark) → begins is_line_feed rest ≡ true → rest ≡ bytes ++ after → length front ≡ length bytes → marks_in rest ≡ front ++ later → list_all is_space front ≡ true → is_line_end after ≡ true
feed-stays [] bytes after front later feed joined long same spaces = absurd (false≢true feed)
feed-stays (byte ∷ rest) bytes after front later feed joined long same spaces =
    let none : front ≡ [] = feed-none byte rest front later feed same spaces in
    let no_bytes : bytes ≡ [] = nil_from_length bytes (sym long ∙ ap length none) in
    let stays : byte ∷ rest ≡ after = joined ∙ ap (λ bs. bs ++ after) no_bytes in
    ap is_line_end (sym stays) ∙ feed

-- what ends a gap is no blank
pub ends-spaces : (rest : List ℕ) → begins_gap false rest ≡ false → prefix_len is_space (marks_in rest) ≡ 0
ends-spaces [] ends = refl
ends-spaces (byte ∷ text) ends =
    let solid : is_space (mark_outside false 0 false byte text) ≡ false = (or_parts _ _ (ends-gap_mark true false 0 false byte text ends)).0 in
    rw solid refl

-- the marks after a gap
pub gap-after : (text rest : List ℕ) (line reached : ℕ) → (run : GapRun true false 0 false text line rest reached) → begins_gap false rest ≡ false → marks_in text ≡ run.front ++ marks_in rest
gap-after text rest line reached run ends =
    let a : ((begins is_blank rest || begins is_hash rest || begins_joint rest) ≡ false) × (_ ≡ false) = or_parts _ _ ends in
    let b : ((begins is_blank rest || begins is_hash rest) ≡ false) × (begins_joint rest ≡ false) = or_parts _ _ a.0 in
    let c : (begins is_blank rest ≡ false) × (begins is_hash rest ≡ false) = or_parts _ _ b.0 in
    run.same ∙ ap (λ ms. run.front ++ ms) (without_joining false 0 run.after rest c.0 b.1)

-- what is written for blanks and the gap after them, if the stanza goes on after it
gap-written : (text blanks rest after : List ℕ) (line reached : ℕ) → Splits is_blank text blanks rest → (run : GapRun true false 0 false rest line after reached) → begins_gap false after ≡ false → is_line_end after ≡ false
    → cond (begins_joint rest) (32 ∷ []) blanks ≡ flat_map command_bytes (map (gap_mark (begins_fold rest)) blanks ++ run.front)
gap-written text blanks rest after line reached splits run ends within =
    flip (by_case (begins_joint rest) (begins is_line_feed rest) refl refl)
  where
    flip : cond (begins_joint rest) (32 ∷ []) blanks ≡ flat_map command_bytes (map (gap_mark (begins_fold rest)) blanks) ++ flat_map command_bytes run.front → cond (begins_joint rest) (32 ∷ []) blanks ≡ flat_map command_bytes (map (gap_mark (begins_fold rest)) blanks ++ run.front)
    flip is = is ∙ sym (flat_map-append command_bytes (map (gap_mark (begins_fold rest)) blanks) run.front)

    by_case : (joint feed : Bool) → begins_joint rest ≡ joint → begins is_line_feed rest ≡ feed → cond (begins_joint rest) (32 ∷ []) blanks ≡ flat_map command_bytes (map (gap_mark (begins_fold rest)) blanks) ++ flat_map command_bytes run.front
    by_case joint true ej ef = absurd (true≢false (sym (feed-stays rest run.bytes after run.front _ ef run.is_text run.long run.same (gap-spaces run.front run.gaps)) ∙ within))
    by_case true false ej ef =
        let space = joint-written rest run.front (marks_in after) ej (gap-after rest after line reached run ends) (gap-spaces run.front run.gaps) (ends-spaces after ends) in
        rw (ej, ef, written-folded blanks, space) refl
    by_case false false ej ef =
        let none = unblanked-written rest run.front (marks_in after) splits.ends ej (gap-after rest after line reached run ends) (gap-spaces run.front run.gaps) in
        rw (ej, ef, written-blanks blanks, none) (sym (append-nil blanks))

-- blanks, and the gap after them
pub Between-made : (text blanks rest after : List ℕ) (line reached : ℕ) (between : List ℕ) (old new : Option (List ℕ)) → Splits is_blank text blanks rest → GapRun true false 0 false rest line after reached → begins_gap false after ≡ false
    → between ≡ cond (begins_joint rest) (32 ∷ []) blanks → ((held : List ℕ) → Holds old held → Holds new (held ++ cond (is_line_end after) [] between))
    → Between text line after reached old new
Between-made text blanks rest after line reached between old new splits run ends is pushed = record {
  bytes = blanks ++ run.bytes;
  front = map (gap_mark (begins_fold rest)) blanks ++ run.front;
  joined = splits.joined ∙ ap (λ bs. blanks ++ bs) run.is_text ∙ sym (append_assoc blanks run.bytes after);
  same =
      ap marks_in splits.joined
      ∙ marks-gap_blanks blanks rest splits.all splits.ends
      ∙ ap (λ ms. map (gap_mark (begins_fold rest)) blanks ++ ms) (gap-after rest after line reached run ends)
      ∙ sym (append_assoc (map (gap_mark (begins_fold rest)) blanks) run.front (marks_in after));
  long = length-append (map (gap_mark (begins_fold rest)) blanks) run.front ∙ (rw (length-map blanks (gap_mark (begins_fold rest)), run.long) (sym (length-append blanks run.bytes)));
  spaces = list_all-append is_space (map (gap_mark (begins_fold rest)) blanks) run.front ∙ and_from _ _ (spaces-blanks (begins_fold rest) blanks) (gap-spaces run.front run.gaps);
  ends = ends;
  counted = omega (arith, run.counted, feeds-append blanks run.bytes, feeds-none is_blank blanks (λ byte is. (blank-is byte is).0) splits.all);
  pushed = λ held holds. Holds-same new _ _ (ap (λ bs. held ++ bs) (written-there (is_line_end after) refl)) (pushed held holds);
}
  where
    written-there : (end : Bool) → is_line_end after ≡ end → cond end [] between ≡ cond end [] (flat_map command_bytes (map (gap_mark (begins_fold rest)) blanks ++ run.front))
    written-there true e = refl
    written-there false e = is ∙ gap-written text blanks rest after line reached splits run ends e
