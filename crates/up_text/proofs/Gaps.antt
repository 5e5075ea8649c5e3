-- How the marks go over a gap.
use Rattle.std.proofs.Common.{◌≡◌, ℕ, ◌+◌, ◌≤◌, ◌<◌, Bool, true, false, cond, not, ◌&&◌, ◌||◌, eqb, List, [], ◌∷◌, ◌++◌, length, drop, refl, sym, ap, ◌∙◌, suc, add-zero, arith, append_assoc, length-append}
use Rattle.std.proofs.lemmas.Bool.{and_parts, and_from, or_parts, ne_eqb, or_cases, true≢false, false≢true}
use Rattle.std.proofs.lemmas.List.{drop_at}
use Rattle.std.proofs.lemmas.List.Folds.{list_all-append}
use Rattle.std.specs.List.{list_all, prefix_len}
use Rattle.up_text.proofs.Readings.{prefix_len-front, place-after, list_all-rest}
use Rattle.up_text.proofs.Runs.{blank-is, feed-is, hash-is, backslash-is, feeds-none, feeds-append, feeds-length}
use Rattle.up_text.specs.Lexer.{place, is_in_line, begins_joint, begins_gap, passes_feeds, Splits, GapRun, IsAfterGap}
use Rattle.up_text.specs.Places.{is_gap, gap_at, marks_at, place_after, is_finished}
use Rattle.up_text.specs.Tokens.{Mark, Part, Quoting, Alone, Blank, Passed, Stop, Outside, Comment, marks, mark_outside, feed_mark, open_after, is_line_feed, is_blank, is_hash, is_quote, is_backslash, is_paren, reaches_feed}
use Rattle.up_pattern.specs.Lists.{begins}

or-true : (b : Bool) → (true || b) ≡ true
or-true b = refl

-- one part of a gap after another
pub GapRun-then : {inside parens : Bool} {depth : ℕ} {joined : Bool} {text middle rest : List ℕ} {line crossed reached : ℕ}
    → (a : GapRun inside parens depth joined text line middle crossed) → GapRun inside parens depth a.after middle crossed rest reached → GapRun inside parens depth joined text line rest reached
GapRun-then {inside} {parens} {depth} {joined} {text} {middle} {rest} {line} {crossed} {reached} a b = record {
  bytes = a.bytes ++ b.bytes;
  front = a.front ++ b.front;
  after = b.after;
  is_text = a.is_text ∙ ap (λ xs. a.bytes ++ xs) b.is_text ∙ sym (append_assoc a.bytes b.bytes rest);
  same = a.same ∙ ap (λ ms. a.front ++ ms) b.same ∙ sym (append_assoc a.front b.front (marks parens depth (Outside b.after) rest));
  long = length-append a.front b.front ∙ (rw (a.long, b.long) (sym (length-append a.bytes b.bytes)));
  gaps = list_all-append (is_gap inside) a.front b.front ∙ and_from _ _ a.gaps b.gaps;
  counted = omega (arith, a.counted, b.counted, feeds-append a.bytes b.bytes);
}

pub GapRun-none : (inside parens : Bool) (depth : ℕ) (joined : Bool) (text : List ℕ) (line : ℕ) → GapRun inside parens depth joined text line text line
GapRun-none inside parens depth joined text line = record { bytes = []; front = []; after = joined; is_text = refl; same = refl; long = refl; gaps = refl; counted = sym (add-zero line) }

pub GapRun-fits : {inside parens : Bool} {depth : ℕ} {joined : Bool} {text rest : List ℕ} {line reached : ℕ} → GapRun inside parens depth joined text line rest reached → reached + length rest ≤ line + length text
GapRun-fits {inside} {parens} {depth} {joined} {text} {rest} {line} {reached} a = omega (arith, feeds-length a.bytes, a.counted, ap length a.is_text, length-append a.bytes rest)

-- blanks

record Blanks (inside parens : Bool) (depth : ℕ) (joined : Bool) (blanks rest : List ℕ) : Type 0 where
  front : List Mark
  same : marks parens depth (Outside joined) (blanks ++ rest) ≡ front ++ marks parens depth (Outside joined) rest
  long : length front ≡ length blanks
  gaps : list_all (is_gap inside) front ≡ true

open-blank : (depth : ℕ) (passed : Bool) (byte : ℕ) → open_after depth (cond passed Passed (Blank byte)) ≡ depth
open-blank depth true byte = refl
open-blank depth false byte = refl

gap-blank : (inside passed : Bool) (byte : ℕ) → is_gap inside (cond passed Passed (Blank byte)) ≡ true
gap-blank inside true byte = refl
gap-blank inside false byte = refl

marks-blanks : (inside parens : Bool) (depth : ℕ) (joined : Bool) (blanks rest : List ℕ) → list_all is_blank blanks ≡ true → Blanks inside parens depth joined blanks rest
marks-blanks inside parens depth joined [] rest all = record { front = []; same = refl; long = refl; gaps = refl }
marks-blanks inside parens depth joined (byte ∷ blanks) rest all =
    let both = and_parts (is_blank byte) (list_all is_blank blanks) all in
    let is = blank-is byte both.0 in
    let later = marks-blanks inside parens depth joined blanks rest both.1 in
    let mark = cond (joined || reaches_feed (blanks ++ rest)) Passed (Blank byte) in
    record {
      front = mark ∷ later.front;
      same = simp (is.0, both.0, open-blank) (ap (λ ms. mark ∷ ms) later.same);
      long = ap suc later.long;
      gaps = and_from _ _ (gap-blank inside (joined || reaches_feed (blanks ++ rest)) byte) later.gaps;
    }

pub GapRun-blanks : (inside parens : Bool) (depth : ℕ) (joined : Bool) (text blanks rest : List ℕ) (line : ℕ) → Splits is_blank text blanks rest → GapRun inside parens depth joined text line rest line
GapRun-blanks inside parens depth joined text blanks rest line splits =
    let are = marks-blanks inside parens depth joined blanks rest splits.all in
    record {
      bytes = blanks;
      front = are.front;
      after = joined;
      is_text = splits.joined;
      same = rw splits.joined are.same;
      long = are.long;
      gaps = are.gaps;
      counted = rw (feeds-none is_blank blanks (λ byte is. (blank-is byte is).0) splits.all) (sym (add-zero line));
    }

-- a comment

in_line-is : (byte : ℕ) → is_in_line byte ≡ true → is_line_feed byte ≡ false
unfolding is_in_line
in_line-is byte in_line = Rattle.std.proofs.lemmas.Bool.not-true _ in_line

record Commented (inside parens : Bool) (depth : ℕ) (bytes rest : List ℕ) : Type 0 where
  front : List Mark
  same : marks parens depth Comment (bytes ++ rest) ≡ front ++ marks parens depth (Outside false) rest
  long : length front ≡ length bytes
  gaps : list_all (is_gap inside) front ≡ true

comment-ends : (parens : Bool) (depth : ℕ) (rest : List ℕ) → begins is_in_line rest ≡ false → marks parens depth Comment rest ≡ marks parens depth (Outside false) rest
unfolding is_in_line
comment-ends parens depth [] ends = refl
comment-ends parens depth (byte ∷ rest) ends =
    let feed : is_line_feed byte ≡ true = Rattle.std.proofs.lemmas.Bool.not-false _ ends in
    let is = feed-is byte feed in
    simp (feed, is.0, is.1, is.2, is.3)

marks-comment : (inside parens : Bool) (depth : ℕ) (bytes rest : List ℕ) → list_all is_in_line bytes ≡ true → begins is_in_line rest ≡ false → Commented inside parens depth bytes rest
marks-comment inside parens depth [] rest all ends = record { front = []; same = comment-ends parens depth rest ends; long = refl; gaps = refl }
marks-comment inside parens depth (byte ∷ bytes) rest all ends =
    let both = and_parts (is_in_line byte) (list_all is_in_line bytes) all in
    let later = marks-comment inside parens depth bytes rest both.1 ends in
    record {
      front = Passed ∷ later.front;
      same = simp (in_line-is byte both.0) (ap (λ ms. Passed ∷ ms) later.same);
      long = ap suc later.long;
      gaps = later.gaps;
    }

pub GapRun-comment : (inside parens : Bool) (depth : ℕ) (joined : Bool) (text front rest : List ℕ) (line : ℕ) → Splits is_in_line text front rest → begins is_hash text ≡ true → GapRun inside parens depth joined text line rest line
unfolding is_in_line
GapRun-comment inside parens depth joined text [] rest line splits hash = absurd (none rest (sym (ap (begins is_hash) splits.joined) ∙ hash) splits.ends)
  where
    none : (rest : List ℕ) → begins is_hash rest ≡ true → begins is_in_line rest ≡ false → ⊥
    none [] first ends = false≢true first
    none (byte ∷ rest) first ends = true≢false (sym (Rattle.std.proofs.lemmas.Bool.not-false _ ends) ∙ (hash-is byte first).0)
GapRun-comment inside parens depth joined text (byte ∷ bytes) rest line splits hash =
    let both = and_parts (is_in_line byte) (list_all is_in_line bytes) splits.all in
    let first : is_hash byte ≡ true = sym (ap (begins is_hash) splits.joined) ∙ hash in
    let is = hash-is byte first in
    let later = marks-comment inside parens depth bytes rest both.1 splits.ends in
    record {
      bytes = byte ∷ bytes;
      front = Passed ∷ later.front;
      after = false;
      is_text = splits.joined;
      same = rw splits.joined (simp (is.0, is.1, first) (ap (λ ms. Passed ∷ ms) later.same));
      long = ap suc later.long;
      gaps = later.gaps;
      counted = rw (feeds-none is_in_line (byte ∷ bytes) in_line-is splits.all) (sym (add-zero line));
    }

-- a line feed that is part of the gap

gap-feed : (inside : Bool) (depth : ℕ) → passes_feeds inside depth ≡ true → is_gap inside (feed_mark depth) ≡ true
gap-feed inside depth passes = by_case inside (eqb depth 0) passes
  where
    by_case : (inside none : Bool) → (not inside || not none) ≡ true → is_gap inside (cond none Stop Passed) ≡ true
    by_case true true passes = passes
    by_case true false passes = refl
    by_case false true passes = refl
    by_case false false passes = refl

open-feed : (depth : ℕ) → open_after depth (feed_mark depth) ≡ depth
open-feed depth = by_case (eqb depth 0)
  where
    by_case : (none : Bool) → open_after depth (cond none Stop Passed) ≡ depth
    by_case true = refl
    by_case false = refl

pub GapRun-feed : (inside parens : Bool) (depth : ℕ) (joined : Bool) (text : List ℕ) (line : ℕ) → passes_feeds inside depth ≡ true → begins is_line_feed text ≡ true → GapRun inside parens depth joined text line (drop 1 text) (line + 1)
GapRun-feed inside parens depth joined [] line passes feed = absurd (cc)
GapRun-feed inside parens depth joined (byte ∷ rest) line passes feed =
    let is = feed-is byte feed in
    record {
      bytes = byte ∷ [];
      front = feed_mark depth ∷ [];
      after = false;
      is_text = refl;
      same = rw (feed, is.0, is.1, is.2, is.3) (ap (λ d. feed_mark depth ∷ marks parens d (Outside false) rest) (open-feed depth));
      long = refl;
      gaps = and_from _ _ (gap-feed inside depth passes) refl;
      counted = rw feed refl;
    }

-- an escaped line end
pub GapRun-joint : (inside parens : Bool) (depth : ℕ) (joined : Bool) (text : List ℕ) (line : ℕ) → begins_joint text ≡ true → GapRun inside parens depth joined text line (drop 1 (drop 1 text)) (line + 1)
GapRun-joint inside parens depth joined [] line joint = absurd (cc)
GapRun-joint inside parens depth joined (byte ∷ []) line joint = absurd (false≢true ((and_parts (is_backslash byte) false joint).1))
GapRun-joint inside parens depth joined (byte ∷ feed ∷ rest) line joint =
    let both = and_parts (is_backslash byte) (is_line_feed feed) joint in
    let is = backslash-is byte both.0 in
    record {
      bytes = byte ∷ feed ∷ [];
      front = Passed ∷ cond joined Passed (Blank 32) ∷ [];
      after = true;
      is_text = refl;
      same = simp (is.0, is.1, is.2, both.0, both.1, open-blank);
      long = refl;
      gaps = and_from _ _ refl (and_from _ _ (gap-blank inside joined 32) refl);
      counted = rw (is.0, both.1) refl;
    }

-- what ends a gap

pub ends-gap_mark : (inside parens : Bool) (depth : ℕ) (joined : Bool) (byte : ℕ) (text : List ℕ) → begins_gap (passes_feeds inside depth) (byte ∷ text) ≡ false → is_gap inside (mark_outside parens depth joined byte text) ≡ false
ends-gap_mark inside parens depth joined byte text ends =
    by_case inside (eqb depth 0) (is_line_feed byte) (is_blank byte) (is_hash byte) (is_backslash byte) (begins is_line_feed text) (is_quote byte) (parens && is_paren byte) ends
  where
    by_case : (inside none f b h k j q p : Bool) → (b || h || (k && j) || ((not inside || not none) && f)) ≡ false
        → is_gap inside (cond f (cond none Stop Passed) (cond b (cond (joined || reaches_feed text) Passed (Blank byte)) (cond h Passed (cond k (cond j Passed (Quoting byte)) (cond q (Quoting byte) (cond p (Alone byte) (Part byte))))))) ≡ false
    by_case inside none f true h k j q p is = absurd (true≢false is)
    by_case inside none f false true k j q p is = absurd (true≢false is)
    by_case inside none f false false true true q p is = absurd (true≢false is)
    by_case true true true false false false j q p is = refl
    by_case true true true false false true false q p is = refl
    by_case true false true false false false j q p is = absurd (true≢false is)
    by_case true false true false false true false q p is = absurd (true≢false is)
    by_case false none true false false false j q p is = absurd (true≢false is)
    by_case false none true false false true false q p is = absurd (true≢false is)
    by_case true none false false false true false q p is = refl
    by_case false none false false false true false q p is = refl
    by_case true none false false false false j true p is = refl
    by_case false none false false false false j true p is = refl
    by_case true none false false false false j false true is = refl
    by_case false none false false false false j false true is = refl
    by_case true none false false false false j false false is = refl
    by_case false none false false false false j false false is = refl

pub ends-gap : (inside parens : Bool) (depth : ℕ) (joined : Bool) (text : List ℕ) → begins_gap (passes_feeds inside depth) text ≡ false → prefix_len (is_gap inside) (marks parens depth (Outside joined) text) ≡ 0
ends-gap inside parens depth joined [] ends = refl
ends-gap inside parens depth joined (byte ∷ text) ends = rw (ends-gap_mark inside parens depth joined byte text ends) refl

-- where no blank stands, it doesn't matter whether blanks are joined
pub without_joining : (parens : Bool) (depth : ℕ) (joined : Bool) (text : List ℕ) → begins is_blank text ≡ false → begins_joint text ≡ false → marks parens depth (Outside joined) text ≡ marks parens depth (Outside false) text
without_joining parens depth joined [] blank joint = refl
without_joining parens depth joined (byte ∷ text) blank joint =
    by_case (is_backslash byte) (begins is_line_feed text) refl refl joint
  where
    by_case : (k j : Bool) → is_backslash byte ≡ k → begins is_line_feed text ≡ j → (k && j) ≡ false → marks parens depth (Outside joined) (byte ∷ text) ≡ marks parens depth (Outside false) (byte ∷ text)
    by_case true true ek ej is = absurd (true≢false is)
    by_case true false ek ej is = simp (blank, ek, ej)
    by_case false j ek ej is = simp (blank, ek)

-- after a gap
pub after-gap : (inside parens : Bool) (depth : ℕ) (text : List ℕ) (line : ℕ) (rest : List ℕ) (reached : ℕ) → GapRun inside parens depth false text line rest reached → begins_gap (passes_feeds inside depth) rest ≡ false
    → IsAfterGap (place text line inside parens depth) (place rest reached inside parens depth)
unfolding gap_at marks_at
after-gap inside parens depth text line rest reached run ends =
    let later = marks parens depth (Outside run.after) rest in
    let gap : prefix_len (is_gap inside) (marks parens depth (Outside false) text) ≡ length run.front =
    ap (prefix_len (is_gap inside)) run.same ∙ prefix_len-front (is_gap inside) run.front later run.gaps (ends-gap inside parens depth run.after rest ends) in
    let a : ((begins is_blank rest || begins is_hash rest || begins_joint rest) ≡ false) × ((passes_feeds inside depth && begins is_line_feed rest) ≡ false) = or_parts _ _ ends in
    let b : ((begins is_blank rest || begins is_hash rest) ≡ false) × (begins_joint rest ≡ false) = or_parts _ _ a.0 in
    let c : (begins is_blank rest ≡ false) × (begins is_hash rest ≡ false) = or_parts _ _ b.0 in
    record {
      at = sym (ap (λ n. place_after n (place text line inside parens depth)) gap ∙ place-after text run.bytes rest line inside parens depth (length run.front) reached run.is_text run.long run.counted);
      marked = sym (ap (λ n. drop n (marks parens depth (Outside false) text)) gap ∙ ap (drop (length run.front)) run.same ∙ drop_at run.front later (length run.front) refl ∙ without_joining parens depth run.after rest c.0 b.1);
    }

-- which part of a gap begins a text
pub gap-feed_passes : (passes : Bool) (text : List ℕ) → begins_gap passes text ≡ true → begins is_line_feed text ≡ true → passes ≡ true
gap-feed_passes passes [] gap feed = absurd (false≢true feed)
gap-feed_passes passes (byte ∷ text) gap feed =
    let is = feed-is byte feed in
    and-left passes (is_line_feed byte) (rw (is.0, is.1, is.2) at gap)
  where
    and-left : (a b : Bool) → (a && b) ≡ true → a ≡ true
    and-left a b both = (and_parts a b both).0

pub gap-joint : (passes : Bool) (text : List ℕ) → begins_gap passes text ≡ true → begins is_blank text ≡ false → begins is_hash text ≡ false → begins is_line_feed text ≡ false → begins_joint text ≡ true
gap-joint passes text gap blank hash feed = by_case passes (begins_joint text) refl (rw (blank, hash, feed) at gap)
  where
    by_case : (passes joint : Bool) → begins_joint text ≡ joint → (joint || (passes && false)) ≡ true → begins_joint text ≡ true
    by_case passes true e is = e
    by_case true false e is = absurd (false≢true is)
    by_case false false e is = absurd (false≢true is)

pub comment-shorter : (text front rest : List ℕ) → Splits is_in_line text front rest → begins is_hash text ≡ true → length rest < length text
unfolding is_in_line
comment-shorter text [] rest splits hash = absurd (none rest (sym (ap (begins is_hash) splits.joined) ∙ hash) splits.ends)
  where
    none : (rest : List ℕ) → begins is_hash rest ≡ true → begins is_in_line rest ≡ false → ⊥
    none [] first ends = false≢true first
    none (byte ∷ rest) first ends = true≢false (sym (Rattle.std.proofs.lemmas.Bool.not-false _ ends) ∙ (hash-is byte first).0)
comment-shorter text (byte ∷ front) rest splits hash = omega (arith, ap length splits.joined, length-append (byte ∷ front) rest)

pub GapRun-shrinks : {inside parens : Bool} {depth : ℕ} {joined : Bool} {text rest : List ℕ} {line reached : ℕ} → GapRun inside parens depth joined text line rest reached → length rest ≤ length text
GapRun-shrinks {inside} {parens} {depth} {joined} {text} {rest} {line} {reached} a = omega (arith, ap length a.is_text, length-append a.bytes rest)

pub finished-read : (text rest : List ℕ) (line reached : ℕ) (parens : Bool) (depth : ℕ) → IsAfterGap (place text line false parens depth) (place rest reached false parens depth) → begins_gap (passes_feeds false depth) rest ≡ false
    → eqb (length rest) 0 ≡ is_finished (place text line false parens depth)
unfolding is_finished gap_at marks_at
finished-read text rest line reached parens depth after ends =
    sym (list_all-rest (is_gap false) (marks_at (place text line false parens depth)) ∙ ap (list_all (is_gap false)) (sym after.marked) ∙ at_rest rest ends)
  where
    at_rest : (rest : List ℕ) → begins_gap (passes_feeds false depth) rest ≡ false → list_all (is_gap false) (marks_at (place rest reached false parens depth)) ≡ eqb (length rest) 0
    at_rest [] ends = refl
    at_rest (byte ∷ rest) ends = rw (ends-gap_mark false parens depth false byte rest ends) (sym (ne_eqb (length (byte ∷ rest)) 0 (λ same. absurd (omega arith))))

pub at_end-read : (inside : Bool) (text rest : List ℕ) (line reached : ℕ) (parens : Bool) (depth : ℕ) → inside ≡ false → IsAfterGap (place text line inside parens depth) (place rest reached inside parens depth) → begins_gap (passes_feeds inside depth) rest ≡ false
    → eqb (length rest) 0 ≡ is_finished (place text line inside parens depth)
at_end-read true text rest line reached parens depth outside after ends = absurd (true≢false outside)
at_end-read false text rest line reached parens depth outside after ends = finished-read text rest line reached parens depth after ends

pub inside-unfinished : (inside : Bool) (text : List ℕ) (line : ℕ) (parens : Bool) (depth : ℕ) → inside ≡ true → false ≡ is_finished (place text line inside parens depth)
unfolding is_finished
inside-unfinished true text line parens depth is = refl
inside-unfinished false text line parens depth is = absurd (false≢true is)
