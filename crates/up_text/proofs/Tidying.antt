-- Marks without the blanks at their end, and marks up to a stanza's end.
use Rattle.std.proofs.Common.{◌≡◌, ℕ, ◌+◌, ◌-◌, Bool, true, false, cond, not, ◌||◌, List, [], ◌∷◌, ◌++◌, length, take, reverse, refl, sym, ap, ◌∙◌, arith, append_assoc, length-append}
use Rattle.std.proofs.lemmas.Bool.{and_parts, and_from, or_parts, true≢false, false≢true}
use Rattle.std.proofs.lemmas.List.{take_at, length-reverse, reverse-append}
use Rattle.std.proofs.Math.Seq.{take-append-add}
use Rattle.std.proofs.lemmas.List.Folds.{list_all-append}
use Rattle.std.proofs.lemmas.List.Sums.{suffix_len-le-length, take_while-cons}
use Rattle.std.specs.List.{list_all, prefix_len, suffix_len, take_while}
use Rattle.up_text.proofs.Gaps.{ends-gap_mark}
use Rattle.up_text.proofs.Readings.{prefix_len-front}
use Rattle.up_text.proofs.Runs.{all-weaker}
use Rattle.up_text.specs.CommandParts.{marks_in, command_marks, trim_end_blanks, is_kept}
use Rattle.up_text.specs.Lexer.{is_line_end, is_spelling, begins_gap}
use Rattle.up_text.specs.Places.{is_space, is_stop}
use Rattle.up_text.specs.Tokens.{Mark, Part, Quoting, Folded, Alone, Blank, Passed, Stop, Fail, Outside, marks, mode_after, mark_outside, open_after, is_line_feed, is_blank, is_hash, is_quote, is_backslash, reaches_feed}
use Rattle.up_pattern.specs.Lists.{begins}

-- lists

prefix_len-before : {X : Type 0} (p : X → Bool) (xs : List X) (y : X) (ys : List X) → p y ≡ false → prefix_len p (xs ++ y ∷ ys) ≡ prefix_len p (xs ++ y ∷ [])
prefix_len-before p [] y ys stop = rw stop refl
prefix_len-before p (x ∷ xs) y ys stop = ap (λ n. cond (p x) (1 + n) 0) (prefix_len-before p xs y ys stop)

prefix_len-none : {X : Type 0} (p : X → Bool) (xs : List X) → list_all (λ x. not (p x)) xs ≡ true → prefix_len p xs ≡ 0
prefix_len-none p [] none = refl
prefix_len-none p (x ∷ xs) none =
    let first : p x ≡ false = Rattle.std.proofs.lemmas.Bool.not-true _ (and_parts (not (p x)) (list_all (λ x. not (p x)) xs) none).0 in
    rw first refl

list_all-reverse : {X : Type 0} (p : X → Bool) (xs : List X) → list_all p xs ≡ true → list_all p (reverse xs) ≡ true
list_all-reverse p [] all = refl
list_all-reverse p (x ∷ xs) all =
    let both = and_parts (p x) (list_all p xs) all in
    ap (list_all p) (reverse-append (x ∷ []) xs) ∙ list_all-append p (reverse xs) (x ∷ []) ∙ and_from _ _ (list_all-reverse p xs both.1) (and_from _ _ both.0 refl)

suffix_len-front : {X : Type 0} (p : X → Bool) (front : List X) (x : X) (later : List X) → p x ≡ false → suffix_len p (front ++ x ∷ later) ≡ suffix_len p (x ∷ later)
suffix_len-front p front x later stop =
    let turned : reverse (front ++ x ∷ later) ≡ reverse later ++ (x ∷ reverse front) =
    reverse-append front (x ∷ later) ∙ ap (λ zs. zs ++ reverse front) (reverse-append (x ∷ []) later) ∙ append_assoc (reverse later) (x ∷ []) (reverse front) in
    ap (prefix_len p) turned ∙ prefix_len-before p (reverse later) x (reverse front) stop ∙ sym (ap (prefix_len p) (reverse-append (x ∷ []) later))

suffix_len-after : {X : Type 0} (p : X → Bool) (front later : List X) → list_all (λ x. not (p x)) front ≡ true → list_all p later ≡ true → suffix_len p (front ++ later) ≡ length later
suffix_len-after p front later none all =
    ap (prefix_len p) (reverse-append front later)
    ∙ prefix_len-front p (reverse later) (reverse front) (list_all-reverse p later all) (prefix_len-none p (reverse front) (list_all-reverse (λ x. not (p x)) front none))
    ∙ length-reverse later

-- marks that end with no blank stay before those that don't end with one

pub trim_end_blanks-front : (front : List Mark) (mark : Mark) (later : List Mark) → is_space mark ≡ false → trim_end_blanks (front ++ mark ∷ later) ≡ front ++ trim_end_blanks (mark ∷ later)
trim_end_blanks-front front mark later solid =
    let statement = mark ∷ later in
    let n = suffix_len is_space statement in
    let size : length (front ++ statement) - suffix_len is_space (front ++ statement) ≡ length front + (length statement - n) =
    omega (arith, suffix_len-front is_space front mark later solid, suffix_len-le-length is_space statement, length-append front statement) in
    ap (λ k. take k (front ++ statement)) size ∙ take-append-add front statement (length statement - n)

spelling-solid : (mark : Mark) → is_spelling mark ≡ true → not (is_space mark) ≡ true
spelling-solid (Part byte) is = refl
spelling-solid (Quoting byte) is = refl
spelling-solid Folded is = refl
spelling-solid (Fail fault) is = absurd (false≢true is)
spelling-solid (Alone byte) is = absurd (false≢true is)
spelling-solid (Blank byte) is = absurd (false≢true is)
spelling-solid Passed is = absurd (false≢true is)
spelling-solid Stop is = absurd (false≢true is)

-- blanks after a spelling go
pub trim_end_blanks-after : (front later : List Mark) → list_all is_spelling front ≡ true → list_all is_space later ≡ true → trim_end_blanks (front ++ later) ≡ front
trim_end_blanks-after front later spelled spaces =
    let size : length front ≡ length (front ++ later) - suffix_len is_space (front ++ later) =
    omega (arith, suffix_len-after is_space front later (all-weaker is_spelling (λ m. not (is_space m)) front spelling-solid spelled) spaces, length-append front later) in
    take_at front later _ size

-- the marks up to the stanza's end

pub take_while-after : {X : Type 0} (p : X → Bool) (front later : List X) → list_all p front ≡ true → take_while p (front ++ later) ≡ front ++ take_while p later
take_while-after p [] later all = refl
take_while-after p (x ∷ front) later all =
    let both = and_parts (p x) (list_all p front) all in
    take_while-cons p x (front ++ later) ∙ rw both.0 (ap (λ xs. x ∷ xs) (take_while-after p front later both.1))

kept-goes_on : (mark : Mark) → is_kept mark ≡ true → not (is_stop mark) ≡ true
kept-goes_on (Part byte) is = refl
kept-goes_on (Quoting byte) is = refl
kept-goes_on Folded is = refl
kept-goes_on (Fail fault) is = refl
kept-goes_on (Alone byte) is = refl
kept-goes_on (Blank byte) is = refl
kept-goes_on Passed is = refl
kept-goes_on Stop is = absurd (false≢true is)

spelling-kept : (mark : Mark) → is_spelling mark ≡ true → is_kept mark ≡ true
spelling-kept mark is = rw is refl

space-kept : (mark : Mark) → is_space mark ≡ true → is_kept mark ≡ true
space-kept mark is = by_case (is_spelling mark) is
  where
    by_case : (b : Bool) → is_space mark ≡ true → (b || is_space mark) ≡ true
    by_case true is = refl
    by_case false is = is

pub spelled-kept : (front : List Mark) → list_all is_spelling front ≡ true → list_all is_kept front ≡ true
spelled-kept front all = all-weaker is_spelling is_kept front spelling-kept all

pub spaces-kept : (front : List Mark) → list_all is_space front ≡ true → list_all is_kept front ≡ true
spaces-kept front all = all-weaker is_space is_kept front space-kept all

pub kept-both : (front later : List Mark) → list_all is_kept front ≡ true → list_all is_kept later ≡ true → list_all is_kept (front ++ later) ≡ true
kept-both front later first second = list_all-append is_kept front later ∙ and_from _ _ first second

-- such marks end no stanza
pub kept-all : (front : List Mark) → list_all is_kept front ≡ true → list_all (λ m. not (is_stop m)) front ≡ true
kept-all front kept = all-weaker is_kept (λ m. not (is_stop m)) front kept-goes_on kept

pub statement-after : (text rest : List ℕ) (front : List Mark) → marks_in text ≡ front ++ marks_in rest → list_all is_kept front ≡ true → command_marks text ≡ front ++ command_marks rest
statement-after text rest front same kept =
    ap (take_while (λ m. not (is_stop m))) same ∙ take_while-after (λ m. not (is_stop m)) front (marks_in rest) (kept-all front kept)

-- a row that ends here
pub statement-ends : (rest : List ℕ) → is_line_end rest ≡ true → command_marks rest ≡ []
statement-ends [] ends = refl
statement-ends (byte ∷ rest) feed = rw feed refl

-- a row that goes on

goes_on-mark : (byte : ℕ) (text : List ℕ) → is_line_feed byte ≡ false → not (is_stop (mark_outside false 0 false byte text)) ≡ true
goes_on-mark byte text apart =
    rw apart (by_case (is_blank byte) (reaches_feed text) (is_hash byte) (is_backslash byte) (begins is_line_feed text) (is_quote byte))
  where
    by_case : (b r h k j q : Bool) → not (is_stop (cond b (cond r Passed (Blank byte)) (cond h Passed (cond k (cond j Passed (Quoting byte)) (cond q (Quoting byte) (Part byte)))))) ≡ true
    by_case true true h k j q = refl
    by_case true false h k j q = refl
    by_case false r true k j q = refl
    by_case false r false true true q = refl
    by_case false r false true false q = refl
    by_case false r false false j true = refl
    by_case false r false false j false = refl

pub record GoesOn (statement : List Mark) : Type 0 where
  pub mark : Mark
  pub later : List Mark
  pub is : statement ≡ mark ∷ later
  pub solid : is_space mark ≡ false

pub statement-goes_on : (rest : List ℕ) → is_line_end rest ≡ false → begins_gap false rest ≡ false → GoesOn (command_marks rest)
statement-goes_on [] within after = absurd (true≢false within)
statement-goes_on (byte ∷ text) within after = record {
  mark = mark_outside false 0 false byte text;
  later = take_while (λ m. not (is_stop m)) (marks false (open_after 0 (mark_outside false 0 false byte text)) (mode_after (Outside false) byte text) text);
  is = take_while-cons (λ m. not (is_stop m)) (mark_outside false 0 false byte text) _ ∙ rw (goes_on-mark byte text within) refl;
  solid = (or_parts _ _ (ends-gap_mark true false 0 false byte text after)).0;
}
