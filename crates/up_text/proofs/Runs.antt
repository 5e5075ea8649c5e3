-- How the marks go over the parts of a spelling.
use Rattle.std.proofs.Common.{◌≡◌, ℕ, ◌+◌, ◌<◌, ◌≤◌, Bool, true, false, cond, ◌&&◌, ◌||◌, eqb, List, [], ◌∷◌, ◌++◌, Option, map, length, take, drop, suc, refl, sym, ap, ◌∙◌, subst, add-zero, arith, append_assoc, append-nil, length-append}
use Rattle.std.proofs.lemmas.List.{length-map}
use Rattle.std.proofs.lemmas.Bool.{and_parts, or_parts, not-true, true≢false, and_from, eqb-true}
use Rattle.std.proofs.lemmas.Bool.Decides.{nat_tests}
use Rattle.std.proofs.lemmas.Grind.{flat_map-append}
use Rattle.std.proofs.lemmas.List.Folds.{list_all-append}
use Rattle.std.specs.List.{list_all, flat_map}
use Rattle.up_value.specs.declared.fault.TextFault.{TextFault}
use Rattle.up_value.specs.declared.fault.TextFault.TheVariants.{UnterminatedQuote, TrailingBackslash}
use Rattle.up_text.specs.Lexer.{is_ordinary, is_literal, is_high, is_low, is_byte, begins_joint, begins_fold, ends_token, Splits, SplitsChar, Holds, mark_bytes, is_spelling, Run, Broken, Escape}
use Rattle.up_text.specs.Places.{feeds}
use Rattle.up_text.specs.Tokens.{Mark, Part, Quoting, Folded, Fail, Mode, Outside, Quoted, marks, open_after, is_line_feed, is_blank, is_hash, is_quote, is_backslash, is_paren, reaches_feed}
use Rattle.up_pattern.specs.Lists.{begins}

-- what a byte is not

pub blank-is : (byte : ℕ) → is_blank byte ≡ true → (is_line_feed byte ≡ false) × (is_hash byte ≡ false) × (is_backslash byte ≡ false)
unfolding is_blank is_line_feed is_hash is_backslash
blank-is byte blank = (grind (arith, nat_tests), grind (arith, nat_tests), grind (arith, nat_tests))

pub feed-is : (byte : ℕ) → is_line_feed byte ≡ true → (is_blank byte ≡ false) × (is_hash byte ≡ false) × (is_backslash byte ≡ false) × (is_quote byte ≡ false)
unfolding is_line_feed is_blank is_hash is_backslash is_quote
feed-is byte feed = (grind (arith, nat_tests), grind (arith, nat_tests), grind (arith, nat_tests), grind (arith, nat_tests))

pub backslash-is : (byte : ℕ) → is_backslash byte ≡ true → (is_line_feed byte ≡ false) × (is_blank byte ≡ false) × (is_hash byte ≡ false) × (is_quote byte ≡ false) × (is_paren byte ≡ false)
unfolding is_line_feed is_blank is_hash is_backslash is_quote is_paren
backslash-is byte backslash = (grind (arith, nat_tests), grind (arith, nat_tests), grind (arith, nat_tests), grind (arith, nat_tests), grind (arith, nat_tests))

pub backslash-at : (byte : ℕ) → is_backslash byte ≡ true → byte ≡ 92
unfolding is_backslash
backslash-at byte backslash = grind (arith, nat_tests)

pub quote-is : (byte : ℕ) → is_quote byte ≡ true → (is_line_feed byte ≡ false) × (is_blank byte ≡ false) × (is_hash byte ≡ false) × (is_backslash byte ≡ false) × (is_paren byte ≡ false)
unfolding is_line_feed is_blank is_hash is_backslash is_quote is_paren
quote-is byte quote = (grind (arith, nat_tests), grind (arith, nat_tests), grind (arith, nat_tests), grind (arith, nat_tests), grind (arith, nat_tests))

pub hash-is : (byte : ℕ) → is_hash byte ≡ true → (is_line_feed byte ≡ false) × (is_blank byte ≡ false)
unfolding is_line_feed is_blank is_hash
hash-is byte hash = (grind (arith, nat_tests), grind (arith, nat_tests))

pub ordinary-is : (parens : Bool) (byte : ℕ) → is_ordinary parens byte ≡ true → (is_line_feed byte ≡ false) × (is_blank byte ≡ false) × (is_hash byte ≡ false) × (is_backslash byte ≡ false) × (is_quote byte ≡ false) × ((parens && is_paren byte) ≡ false)
unfolding is_ordinary
ordinary-is parens byte ordinary =
    let a = or_parts _ _ (not-true _ ordinary) in
    let b = or_parts _ _ a.0 in
    let c = or_parts _ _ b.0 in
    let d = or_parts _ _ c.0 in
    let e = or_parts _ _ d.0 in
    (e.0, e.1, d.1, c.1, b.1, a.1)

pub literal-is : (quote byte : ℕ) → is_literal quote byte ≡ true → (eqb byte quote ≡ false) × (is_line_feed byte ≡ false) × (is_blank byte ≡ false) × (is_backslash byte ≡ false)
unfolding is_literal
literal-is quote byte literal =
    let a = or_parts _ _ (not-true _ literal) in
    let b = or_parts _ _ a.0 in
    let c = or_parts _ _ b.0 in
    (c.0, c.1, b.1, a.1)

pub high-ordinary : (parens : Bool) (byte : ℕ) → is_high byte ≡ true → is_ordinary parens byte ≡ true
unfolding is_high is_ordinary is_line_feed is_blank is_hash is_backslash is_quote is_paren
high-ordinary parens byte high = grind (arith, nat_tests)

pub high-literal : (quote byte : ℕ) → is_quote quote ≡ true → is_high byte ≡ true → is_literal quote byte ≡ true
unfolding is_high is_literal is_line_feed is_blank is_backslash is_quote
high-literal quote byte is high = grind (arith, nat_tests)

pub quote-apart : (byte quote : ℕ) → is_quote quote ≡ true → is_quote byte ≡ false → eqb byte quote ≡ false
unfolding is_quote
quote-apart byte quote is other = grind (arith, nat_tests)

pub feed-apart : (byte quote : ℕ) → is_quote quote ≡ true → is_line_feed byte ≡ true → eqb byte quote ≡ false
feed-apart byte quote is feed = quote-apart byte quote is (feed-is byte feed).3

pub backslash-apart : (byte quote : ℕ) → is_quote quote ≡ true → is_backslash byte ≡ true → eqb byte quote ≡ false
backslash-apart byte quote is backslash = quote-apart byte quote is (backslash-is byte backslash).3

blank-quote : (byte : ℕ) → is_blank byte ≡ true → is_quote byte ≡ false
unfolding is_blank is_quote
blank-quote byte blank = grind (arith, nat_tests)

pub blank-apart : (byte quote : ℕ) → is_quote quote ≡ true → is_blank byte ≡ true → eqb byte quote ≡ false
blank-apart byte quote is blank = quote-apart byte quote is (blank-quote byte blank)

-- bytes that are no line feeds

pub all-weaker : {X : Type 0} (p q : X → Bool) (xs : List X) → ((x : X) → p x ≡ true → q x ≡ true) → list_all p xs ≡ true → list_all q xs ≡ true
all-weaker p q [] weaker all = refl
all-weaker p q (x ∷ xs) weaker all =
    let both = and_parts (p x) (list_all p xs) all in
    and_from _ _ (weaker x both.0) (all-weaker p q xs weaker both.1)

pub feeds-none : (p : ℕ → Bool) (bytes : List ℕ) → ((byte : ℕ) → p byte ≡ true → is_line_feed byte ≡ false) → list_all p bytes ≡ true → feeds bytes ≡ 0
feeds-none p [] apart all = refl
feeds-none p (byte ∷ bytes) apart all =
    let both = and_parts (p byte) (list_all p bytes) all in
    rw (apart byte both.0) (feeds-none p bytes apart both.1)

pub feeds-append : (xs ys : List ℕ) → feeds (xs ++ ys) ≡ feeds xs + feeds ys
feeds-append [] ys = omega arith
feeds-append (byte ∷ xs) ys = by_case (is_line_feed byte) (feeds-append xs ys)
  where
    by_case : (b : Bool) → feeds (xs ++ ys) ≡ feeds xs + feeds ys → cond b (feeds (xs ++ ys) + 1) (feeds (xs ++ ys)) ≡ cond b (feeds xs + 1) (feeds xs) + feeds ys
    by_case true ih = omega arith
    by_case false ih = ih

-- the marks of bytes that stand for themselves

pub mark_bytes-parts : (keep : Bool) (bytes : List ℕ) → flat_map (mark_bytes keep) (map Part bytes) ≡ bytes
mark_bytes-parts keep [] = refl
mark_bytes-parts true (byte ∷ bytes) = ap (λ bs. byte ∷ bs) (mark_bytes-parts true bytes)
mark_bytes-parts false (byte ∷ bytes) = ap (λ bs. byte ∷ bs) (mark_bytes-parts false bytes)

pub spelled-parts : (bytes : List ℕ) → list_all is_spelling (map Part bytes) ≡ true
spelled-parts [] = refl
spelled-parts (byte ∷ bytes) = spelled-parts bytes

pub marks-ordinary : (parens : Bool) (depth : ℕ) (bytes rest : List ℕ) → list_all (is_ordinary parens) bytes ≡ true → marks parens depth (Outside false) (bytes ++ rest) ≡ map Part bytes ++ marks parens depth (Outside false) rest
marks-ordinary parens depth [] rest all = refl
marks-ordinary parens depth (byte ∷ bytes) rest all =
    let both = and_parts (is_ordinary parens byte) (list_all (is_ordinary parens) bytes) all in
    let is = ordinary-is parens byte both.0 in
    simp (is.0, is.1, is.2, is.3, is.4, is.5) (ap (λ ms. Part byte ∷ ms) (marks-ordinary parens depth bytes rest both.1))

pub marks-literal : (parens : Bool) (depth quote : ℕ) (joined : Bool) (byte : ℕ) (bytes rest : List ℕ) → list_all (is_literal quote) (byte ∷ bytes) ≡ true → marks parens depth (Quoted quote joined) ((byte ∷ bytes) ++ rest) ≡ map Part (byte ∷ bytes) ++ marks parens depth (Quoted quote false) rest
marks-literal parens depth quote joined byte [] rest all =
    let is = literal-is quote byte (and_parts (is_literal quote byte) true all).0 in
    simp (is.0, is.1, is.2, is.3)
marks-literal parens depth quote joined byte (next ∷ bytes) rest all =
    let both = and_parts (is_literal quote byte) (list_all (is_literal quote) (next ∷ bytes)) all in
    let is = literal-is quote byte both.0 in
    simp (is.0, is.1, is.2, is.3) (ap (λ ms. Part byte ∷ ms) (marks-literal parens depth quote false next bytes rest both.1))

-- and of the highs
marks-high : (parens : Bool) (depth quote : ℕ) (bytes rest : List ℕ) → is_quote quote ≡ true → list_all is_high bytes ≡ true → marks parens depth (Quoted quote false) (bytes ++ rest) ≡ map Part bytes ++ marks parens depth (Quoted quote false) rest
marks-high parens depth quote [] rest is all = refl
marks-high parens depth quote (byte ∷ bytes) rest is all = marks-literal parens depth quote false byte bytes rest (all-weaker is_high (is_literal quote) (byte ∷ bytes) (λ b. high-literal quote b is) all)

pub Holds-same : (held : Option (List ℕ)) (xs ys : List ℕ) → xs ≡ ys → Holds held xs → Holds held ys
Holds-same held xs ys same holds = subst (Holds held) same holds

-- one part after another
unfoldable pub Run-then : {parens keep : Bool} {mode between after : Mode} {text middle rest : List ℕ} {line crossed reached : ℕ} {old half new : Option (List ℕ)}
    → Run parens keep mode text line between middle crossed old half → Run parens keep between middle crossed after rest reached half new → Run parens keep mode text line after rest reached old new
Run-then {parens} {keep} {mode} {between} {after} {text} {middle} {rest} {line} {crossed} {reached} {old} {half} {new} a b = record {
  bytes = a.bytes ++ b.bytes;
  front = a.front ++ b.front;
  joined = a.joined ∙ ap (λ xs. a.bytes ++ xs) b.joined ∙ sym (append_assoc a.bytes b.bytes rest);
  same = λ depth. a.same depth ∙ ap (λ ms. a.front ++ ms) (b.same depth) ∙ sym (append_assoc a.front b.front (marks parens depth after rest));
  long = length-append a.front b.front ∙ (rw (a.long, b.long) (sym (length-append a.bytes b.bytes)));
  spelled = list_all-append is_spelling a.front b.front ∙ and_from _ _ a.spelled b.spelled;
  counted = omega (arith, a.counted, b.counted, feeds-append a.bytes b.bytes);
  pushed = λ held holds. Holds-same new ((held ++ flat_map (mark_bytes keep) a.front) ++ flat_map (mark_bytes keep) b.front) (held ++ flat_map (mark_bytes keep) (a.front ++ b.front))
      (append_assoc held (flat_map (mark_bytes keep) a.front) (flat_map (mark_bytes keep) b.front) ∙ ap (λ xs. held ++ xs) (sym (flat_map-append (mark_bytes keep) a.front b.front)))
      (b.pushed (held ++ flat_map (mark_bytes keep) a.front) (a.pushed held holds));
}

-- a fault after a part
pub Broken-then : {parens keep : Bool} {mode between : Mode} {text middle : List ℕ} {line crossed : ℕ} {old half : Option (List ℕ)} {fault : TextFault}
    → Run parens keep mode text line between middle crossed old half → Broken parens between middle fault → Broken parens mode text fault
Broken-then {fault} a b = record {
  front = a.front ++ b.front;
  same = λ depth. a.same depth ∙ ap (λ ms. a.front ++ ms) (b.same depth) ∙ sym (append_assoc a.front b.front (Fail fault ∷ []));
  spelled = list_all-append is_spelling a.front b.front ∙ and_from _ _ a.spelled b.spelled;
}

-- the line numbers that are left fit if those before fit
pub feeds-length : (bytes : List ℕ) → feeds bytes ≤ length bytes
feeds-length [] = omega arith
feeds-length (byte ∷ bytes) = by_case (is_line_feed byte) (feeds-length bytes)
  where
    by_case : (b : Bool) → feeds bytes ≤ length bytes → cond b (feeds bytes + 1) (feeds bytes) ≤ length (byte ∷ bytes)
    by_case true ih = omega arith
    by_case false ih = omega arith

pub Run-fits : {parens keep : Bool} {mode after : Mode} {text rest : List ℕ} {line reached : ℕ} {old new : Option (List ℕ)}
    → Run parens keep mode text line after rest reached old new → reached + length rest ≤ line + length text
Run-fits {rest} a = omega (arith, feeds-length a.bytes, a.counted, ap length a.joined, length-append a.bytes rest)

-- bytes that stand for themselves
unfoldable pub Run-ordinary : (parens keep : Bool) (text front rest : List ℕ) (line : ℕ) (old new : Option (List ℕ)) → Splits (is_ordinary parens) text front rest → ((held : List ℕ) → Holds old held → Holds new (held ++ front))
    → Run parens keep (Outside false) text line (Outside false) rest line old new
Run-ordinary parens keep text front rest line old new splits pushed = record {
  bytes = front;
  front = map Part front;
  joined = splits.joined;
  same = λ depth. rw splits.joined (marks-ordinary parens depth front rest splits.all);
  long = length-map front Part;
  spelled = spelled-parts front;
  counted = rw (feeds-none (is_ordinary parens) front (λ byte is. (ordinary-is parens byte is).0) splits.all) (sym (add-zero line));
  pushed = λ held holds. Holds-same new (held ++ front) _ (ap (λ xs. held ++ xs) (sym (mark_bytes-parts keep front))) (pushed held holds);
}

-- the same in a quoted piece
pub Run-literal : (parens keep : Bool) (quote : ℕ) (joined : Bool) (text front rest : List ℕ) (line : ℕ) (old new : Option (List ℕ)) → Splits (is_literal quote) text front rest → begins (is_literal quote) text ≡ true → ((held : List ℕ) → Holds old held → Holds new (held ++ front))
    → Run parens keep (Quoted quote joined) text line (Quoted quote false) rest line old new
Run-literal parens keep quote joined text [] rest line old new splits first pushed = absurd (true≢false (sym first ∙ ap (begins (is_literal quote)) splits.joined ∙ splits.ends))
Run-literal parens keep quote joined text (byte ∷ bytes) rest line old new splits first pushed = record {
  bytes = byte ∷ bytes;
  front = map Part (byte ∷ bytes);
  joined = splits.joined;
  same = λ depth. rw splits.joined (marks-literal parens depth quote joined byte bytes rest splits.all);
  long = length-map (byte ∷ bytes) Part;
  spelled = spelled-parts (byte ∷ bytes);
  counted = rw (feeds-none (is_literal quote) (byte ∷ bytes) (λ byte is. (literal-is quote byte is).1) splits.all) (sym (add-zero line));
  pushed = λ held holds. Holds-same new (held ++ byte ∷ bytes) _ (ap (λ xs. held ++ xs) (sym (mark_bytes-parts keep (byte ∷ bytes)))) (pushed held holds);
}

-- blanks in a quoted piece: joined with a line end before or after them, or not
pub reaches-blanks : (blanks rest : List ℕ) → list_all is_blank blanks ≡ true → begins is_blank rest ≡ false → reaches_feed (blanks ++ rest) ≡ begins_fold rest
reaches-blanks [] [] all ends = refl
reaches-blanks [] (byte ∷ rest) all ends = by_case (is_line_feed byte) ends
  where
    by_case : (feed : Bool) → is_blank byte ≡ false → (feed || (is_blank byte && reaches_feed rest) || (is_backslash byte && begins is_line_feed rest)) ≡ (feed || (is_backslash byte && begins is_line_feed rest))
    by_case true other = refl
    by_case false other = rw other refl
reaches-blanks (byte ∷ blanks) rest all ends =
    let both = and_parts (is_blank byte) (list_all is_blank blanks) all in
    let is = blank-is byte both.0 in
    simp (is.0, is.2, both.0, reaches-blanks blanks rest both.1 ends, or-false)
  where
    or-false : (b : Bool) → (b || false) ≡ b
    or-false true = refl
    or-false false = refl

abbrev pub blank_mark : Bool → ℕ → Mark
blank_mark folds byte = cond folds Folded (Part byte)

open-blank : (depth : ℕ) (folds : Bool) (byte : ℕ) → open_after depth (cond folds Folded (Part byte)) ≡ depth
open-blank depth true byte = refl
open-blank depth false byte = refl

pub marks-blanks : (parens : Bool) (depth quote : ℕ) (joined : Bool) (blanks rest : List ℕ) → is_quote quote ≡ true → list_all is_blank blanks ≡ true → begins is_blank rest ≡ false
    → marks parens depth (Quoted quote joined) (blanks ++ rest) ≡ map (blank_mark (joined || begins_fold rest)) blanks ++ marks parens depth (Quoted quote joined) rest
marks-blanks parens depth quote joined [] rest quoting all ends = refl
marks-blanks parens depth quote joined (byte ∷ blanks) rest quoting all ends =
    let both = and_parts (is_blank byte) (list_all is_blank blanks) all in
    let is = blank-is byte both.0 in
    simp (blank-apart byte quote quoting both.0, is.0, both.0, reaches-blanks blanks rest both.1 ends, open-blank) (ap (λ ms. blank_mark (joined || begins_fold rest) byte ∷ ms) (marks-blanks parens depth quote joined blanks rest quoting both.1 ends))

mark_bytes-folded : (keep : Bool) (blanks : List ℕ) → flat_map (mark_bytes keep) (map (blank_mark true) blanks) ≡ []
mark_bytes-folded keep [] = refl
mark_bytes-folded true (byte ∷ blanks) = mark_bytes-folded true blanks
mark_bytes-folded false (byte ∷ blanks) = mark_bytes-folded false blanks

spelled-blanks : (folds : Bool) (blanks : List ℕ) → list_all is_spelling (map (blank_mark folds) blanks) ≡ true
spelled-blanks folds [] = refl
spelled-blanks true (byte ∷ blanks) = spelled-blanks true blanks
spelled-blanks false (byte ∷ blanks) = spelled-blanks false blanks

Run-blanks : (parens keep : Bool) (quote : ℕ) (joined folds : Bool) (text blanks rest : List ℕ) (line : ℕ) (old new : Option (List ℕ)) → is_quote quote ≡ true → Splits is_blank text blanks rest → (joined || begins_fold rest) ≡ folds
    → ((held : List ℕ) → Holds old held → Holds new (held ++ flat_map (mark_bytes keep) (map (blank_mark folds) blanks)))
    → Run parens keep (Quoted quote joined) text line (Quoted quote joined) rest line old new
Run-blanks parens keep quote joined folds text blanks rest line old new quoting splits is pushed = record {
  bytes = blanks;
  front = map (blank_mark folds) blanks;
  joined = splits.joined;
  same = λ depth. rw (splits.joined, ← is) (marks-blanks parens depth quote joined blanks rest quoting splits.all splits.ends);
  long = length-map blanks (blank_mark folds);
  spelled = spelled-blanks folds blanks;
  counted = rw (feeds-none is_blank blanks (λ byte is. (blank-is byte is).0) splits.all) (sym (add-zero line));
  pushed = pushed;
}

pub Run-blanks_folded : (parens keep : Bool) (quote : ℕ) (joined : Bool) (text blanks rest : List ℕ) (line : ℕ) (out : Option (List ℕ)) → is_quote quote ≡ true → Splits is_blank text blanks rest → (joined || begins_fold rest) ≡ true
    → Run parens keep (Quoted quote joined) text line (Quoted quote joined) rest line out out
Run-blanks_folded parens keep quote joined text blanks rest line out quoting splits is =
    Run-blanks parens keep quote joined true text blanks rest line out out quoting splits is
    (λ held holds. Holds-same out held _ (sym (append-nil held) ∙ ap (λ xs. held ++ xs) (sym (mark_bytes-folded keep blanks))) holds)

pub Run-blanks_kept : (parens keep : Bool) (quote : ℕ) (joined : Bool) (text blanks rest : List ℕ) (line : ℕ) (old new : Option (List ℕ)) → is_quote quote ≡ true → Splits is_blank text blanks rest → (joined || begins_fold rest) ≡ false
    → ((held : List ℕ) → Holds old held → Holds new (held ++ blanks))
    → Run parens keep (Quoted quote joined) text line (Quoted quote joined) rest line old new
Run-blanks_kept parens keep quote joined text blanks rest line old new quoting splits is pushed =
    Run-blanks parens keep quote joined false text blanks rest line old new quoting splits is
    (λ held holds. Holds-same new (held ++ blanks) _ (ap (λ xs. held ++ xs) (sym (mark_bytes-parts keep blanks))) (pushed held holds))

-- a line end in a quoted piece
abbrev pub fold_mark : Bool → Mark
fold_mark joined = cond joined Folded (Part 32)

-- the one space of a run, where its first line end stands
abbrev pub fold_text : Bool → List ℕ
fold_text joined = cond joined [] (32 ∷ [])

open-fold : (depth : ℕ) (joined : Bool) → open_after depth (fold_mark joined) ≡ depth
open-fold depth true = refl
open-fold depth false = refl

mark_bytes-fold : (keep joined : Bool) → flat_map (mark_bytes keep) (fold_mark joined ∷ []) ≡ fold_text joined
mark_bytes-fold true true = refl
mark_bytes-fold true false = refl
mark_bytes-fold false true = refl
mark_bytes-fold false false = refl

spelled-fold : (joined : Bool) → list_all is_spelling (fold_mark joined ∷ []) ≡ true
spelled-fold true = refl
spelled-fold false = refl

marks-feed : (parens : Bool) (depth quote : ℕ) (joined : Bool) (byte : ℕ) (rest : List ℕ) → is_quote quote ≡ true → is_line_feed byte ≡ true
    → marks parens depth (Quoted quote joined) (byte ∷ rest) ≡ fold_mark joined ∷ marks parens depth (Quoted quote true) rest
marks-feed parens depth quote joined byte rest quoting feed =
    simp (feed-apart byte quote quoting feed, feed, open-fold)

-- a line end, and what is appended for it
pub Run-feed : (parens keep : Bool) (quote : ℕ) (joined : Bool) (text : List ℕ) (line : ℕ) (old new : Option (List ℕ)) → is_quote quote ≡ true → begins is_line_feed text ≡ true
    → ((held : List ℕ) → Holds old held → Holds new (held ++ fold_text joined))
    → Run parens keep (Quoted quote joined) text line (Quoted quote true) (drop 1 text) (line + 1) old new
Run-feed parens keep quote joined [] line old new quoting feed pushed = absurd (cc)
Run-feed parens keep quote joined (byte ∷ rest) line old new quoting feed pushed = record {
  bytes = byte ∷ [];
  front = fold_mark joined ∷ [];
  joined = refl;
  same = λ depth. marks-feed parens depth quote joined byte rest quoting feed;
  long = refl;
  spelled = spelled-fold joined;
  counted = rw feed refl;
  pushed = λ held holds. Holds-same new (held ++ fold_text joined) _ (ap (λ xs. held ++ xs) (sym (mark_bytes-fold keep joined))) (pushed held holds);
}

-- the backslash before it gives nothing
pub Run-joint : (parens keep : Bool) (quote : ℕ) (joined : Bool) (text : List ℕ) (line : ℕ) (out : Option (List ℕ)) → is_quote quote ≡ true → begins_joint text ≡ true
    → Run parens keep (Quoted quote joined) text line (Quoted quote joined) (drop 1 text) line out out
Run-joint parens keep quote joined [] line out quoting joint = absurd (cc)
Run-joint parens keep quote joined (byte ∷ rest) line out quoting joint =
    let both = and_parts (is_backslash byte) (begins is_line_feed rest) joint in
    let is = backslash-is byte both.0 in
    record {
      bytes = byte ∷ [];
      front = Folded ∷ [];
      joined = refl;
      same = λ depth. simp (backslash-apart byte quote quoting both.0, is.0, is.1, both.0, both.1);
      long = refl;
      spelled = refl;
      counted = rw is.0 (sym (add-zero line));
      pushed = λ held holds. Holds-same out held _ (sym (append-nil held) ∙ ap (λ xs. held ++ xs) (folded keep)) holds;
    }
  where
    folded : (keep : Bool) → [] ≡ flat_map (mark_bytes keep) (Folded ∷ [])
    folded true = refl
    folded false = refl

pub joint-feed : (text : List ℕ) → begins_joint text ≡ true → begins is_line_feed (drop 1 text) ≡ true
joint-feed [] joint = absurd (cc)
joint-feed (byte ∷ text) joint = (and_parts (is_backslash byte) (begins is_line_feed text) joint).1

-- a quote or a backslash that is kept or dropped
quoting-mark_bytes : (keep : Bool) (byte : ℕ) → flat_map (mark_bytes keep) (Quoting byte ∷ []) ≡ cond keep (byte ∷ []) []
quoting-mark_bytes true byte = refl
quoting-mark_bytes false byte = refl

-- a quote
pub Run-closing : (parens keep : Bool) (quote : ℕ) (joined : Bool) (text : List ℕ) (line : ℕ) (old new : Option (List ℕ)) → is_quote quote ≡ true → begins (is_byte quote) text ≡ true
    → ((held : List ℕ) → Holds old held → Holds new (held ++ cond keep (take 1 text) []))
    → Run parens keep (Quoted quote joined) text line (Outside false) (drop 1 text) line old new
Run-closing parens keep quote joined [] line old new quoting closes pushed = absurd (cc)
Run-closing parens keep quote joined (byte ∷ rest) line old new quoting closes pushed =
    let same : byte ≡ quote = eqb-true byte quote closes in
    record {
      bytes = byte ∷ [];
      front = Quoting byte ∷ [];
      joined = refl;
      same = λ depth. simp closes;
      long = refl;
      spelled = refl;
      counted = rw (subst (λ b. is_line_feed b ≡ false) (sym same) (quote-is quote quoting).0) (sym (add-zero line));
      pushed = λ held holds. Holds-same new (held ++ cond keep (byte ∷ []) []) _ (ap (λ xs. held ++ xs) (sym (quoting-mark_bytes keep byte))) (pushed held holds);
    }

pub Run-opening : (parens keep : Bool) (quote : ℕ) (text : List ℕ) (line : ℕ) (old new : Option (List ℕ)) → is_quote quote ≡ true → begins (is_byte quote) text ≡ true
    → ((held : List ℕ) → Holds old held → Holds new (held ++ cond keep (take 1 text) []))
    → Run parens keep (Outside false) text line (Quoted quote false) (drop 1 text) line old new
Run-opening parens keep quote [] line old new quoting opens pushed = absurd (cc)
Run-opening parens keep quote (byte ∷ rest) line old new quoting opens pushed =
    let same : byte ≡ quote = eqb-true byte quote opens in
    let quoted : is_quote byte ≡ true = subst (λ b. is_quote b ≡ true) (sym same) quoting in
    let is = quote-is byte quoted in
    record {
      bytes = byte ∷ [];
      front = Quoting byte ∷ [];
      joined = refl;
      same = λ depth. simp (is.0, is.1, is.2, is.3, quoted) (ap (λ q. Quoting byte ∷ marks parens depth (Quoted q false) rest) same);
      long = refl;
      spelled = refl;
      counted = rw is.0 (sym (add-zero line));
      pushed = λ held holds. Holds-same new (held ++ cond keep (byte ∷ []) []) _ (ap (λ xs. held ++ xs) (sym (quoting-mark_bytes keep byte))) (pushed held holds);
    }

-- a character after a backslash

escape-mark_bytes : (keep : Bool) (first : ℕ) (others held : List ℕ) → (held ++ cond keep (92 ∷ []) []) ++ (first ∷ others) ≡ held ++ flat_map (mark_bytes keep) (Quoting 92 ∷ Part first ∷ map Part others)
escape-mark_bytes true first others held = append_assoc held (92 ∷ []) (first ∷ others) ∙ ap (λ xs. held ++ (92 ∷ first ∷ xs)) (sym (mark_bytes-parts true others))
escape-mark_bytes false first others held = append_assoc held [] (first ∷ others) ∙ ap (λ xs. held ++ (first ∷ xs)) (sym (mark_bytes-parts false others))

backslash-92 : is_backslash 92 ≡ true
unfolding is_backslash
backslash-92 = refl

feeds-escape : (first : ℕ) (others : List ℕ) → is_line_feed first ≡ false → list_all is_high others ≡ true → feeds (92 ∷ first ∷ others) ≡ 0
feeds-escape first others other high =
    simp ((backslash-is 92 backslash-92).0, other) (feeds-none is_high others (λ byte is. (ordinary-is true byte (high-ordinary true byte is)).0) high)

marks-escape_outside : (parens : Bool) (depth first : ℕ) (others rest : List ℕ) → is_line_feed first ≡ false → list_all is_high others ≡ true
    → marks parens depth (Outside false) (92 ∷ first ∷ (others ++ rest)) ≡ Quoting 92 ∷ Part first ∷ (map Part others ++ marks parens depth (Outside false) rest)
marks-escape_outside parens depth first others rest other high =
    let is = backslash-is 92 backslash-92 in
    simp (is.0, is.1, is.2, backslash-92, other) (ap (λ ms. Quoting 92 ∷ Part first ∷ ms) (marks-ordinary parens depth others rest (all-weaker is_high (is_ordinary parens) others (high-ordinary parens) high)))

marks-escape_quoted : (parens : Bool) (depth quote : ℕ) (joined : Bool) (first : ℕ) (others rest : List ℕ) → is_quote quote ≡ true → is_line_feed first ≡ false → list_all is_high others ≡ true
    → marks parens depth (Quoted quote joined) (92 ∷ first ∷ (others ++ rest)) ≡ Quoting 92 ∷ Part first ∷ (map Part others ++ marks parens depth (Quoted quote false) rest)
marks-escape_quoted parens depth quote joined first others rest quoting other high =
    let is = backslash-is 92 backslash-92 in
    simp (backslash-apart 92 quote quoting backslash-92, is.0, is.1, backslash-92, other) (ap (λ ms. Quoting 92 ∷ Part first ∷ ms) (marks-high parens depth quote others rest quoting high))

-- what follows a backslash that joins no lines
pub apart-first : (text : List ℕ) (first : ℕ) (others : List ℕ) → text ≡ 92 ∷ first ∷ others → begins_joint text ≡ false → is_line_feed first ≡ false
apart-first text first others is apart = sym (rw backslash-92 refl) ∙ sym (ap begins_joint is) ∙ apart

pub Run-escape_outside : (parens keep : Bool) (text rest : List ℕ) (line : ℕ) (old new : Option (List ℕ)) → Escape keep text old new rest → begins_joint text ≡ false
    → Run parens keep (Outside false) text line (Outside false) rest line old new
Run-escape_outside parens keep text rest line old new escape apart =
    let other = apart-first text escape.first (escape.others ++ rest) escape.joined apart in
    record {
      bytes = 92 ∷ escape.first ∷ escape.others;
      front = Quoting 92 ∷ Part escape.first ∷ map Part escape.others;
      joined = escape.joined;
      same = λ depth. rw escape.joined (marks-escape_outside parens depth escape.first escape.others rest other escape.high);
      long = ap (λ n. suc (suc n)) (length-map escape.others Part);
      spelled = spelled-parts escape.others;
      counted = rw (feeds-escape escape.first escape.others other escape.high) (sym (add-zero line));
      pushed = λ held holds. Holds-same new _ _ (escape-mark_bytes keep escape.first escape.others held) (escape.pushed held holds);
    }

pub Run-escape_quoted : (parens keep : Bool) (quote : ℕ) (joined : Bool) (text rest : List ℕ) (line : ℕ) (old new : Option (List ℕ)) → is_quote quote ≡ true → Escape keep text old new rest → begins_joint text ≡ false
    → Run parens keep (Quoted quote joined) text line (Quoted quote false) rest line old new
Run-escape_quoted parens keep quote joined text rest line old new quoting escape apart =
    let other = apart-first text escape.first (escape.others ++ rest) escape.joined apart in
    record {
      bytes = 92 ∷ escape.first ∷ escape.others;
      front = Quoting 92 ∷ Part escape.first ∷ map Part escape.others;
      joined = escape.joined;
      same = λ depth. rw escape.joined (marks-escape_quoted parens depth quote joined escape.first escape.others rest quoting other escape.high);
      long = ap (λ n. suc (suc n)) (length-map escape.others Part);
      spelled = spelled-parts escape.others;
      counted = rw (feeds-escape escape.first escape.others other escape.high) (sym (add-zero line));
      pushed = λ held holds. Holds-same new _ _ (escape-mark_bytes keep escape.first escape.others held) (escape.pushed held holds);
    }

-- a backslash at the end of the text
pub Broken-backslash : (parens : Bool) (text : List ℕ) → text ≡ 92 ∷ [] → Broken parens (Outside false) text TrailingBackslash
Broken-backslash parens text is =
    let not = backslash-is 92 backslash-92 in
    record { front = Quoting 92 ∷ []; same = λ depth. rw is (simp (not.0, not.1, not.2, backslash-92)); spelled = refl }

pub Broken-escape : (parens : Bool) (quote : ℕ) (joined : Bool) (text : List ℕ) → is_quote quote ≡ true → text ≡ 92 ∷ [] → Broken parens (Quoted quote joined) text UnterminatedQuote
Broken-escape parens quote joined text quoting is =
    let not = backslash-is 92 backslash-92 in
    record { front = Quoting 92 ∷ []; same = λ depth. rw is (simp (backslash-apart 92 quote quoting backslash-92, not.0, not.1, backslash-92)); spelled = refl }

-- an open quote at the end of the text
pub Broken-quote : (parens : Bool) (quote : ℕ) (joined : Bool) (text : List ℕ) → text ≡ [] → Broken parens (Quoted quote joined) text UnterminatedQuote
Broken-quote parens quote joined text is = record { front = []; same = λ depth. rw is refl; spelled = refl }

-- bytes that are low

pub begins-low : (p : ℕ → Bool) (text : List ℕ) → ((byte : ℕ) → p byte ≡ true → is_low byte ≡ true) → begins p text ≡ true → begins is_low text ≡ true
begins-low p [] low first = absurd (cc)
begins-low p (byte ∷ text) low first = low byte first

pub feed-low : (byte : ℕ) → is_line_feed byte ≡ true → is_low byte ≡ true
unfolding is_line_feed is_low
feed-low byte feed = grind (arith, nat_tests)

pub backslash-low : (byte : ℕ) → is_backslash byte ≡ true → is_low byte ≡ true
unfolding is_backslash is_low
backslash-low byte feed = grind (arith, nat_tests)

pub paren-low : (byte : ℕ) → is_paren byte ≡ true → is_low byte ≡ true
unfolding is_paren is_low
paren-low byte feed = grind (arith, nat_tests)

pub quote-low : (quote : ℕ) → is_quote quote ≡ true → (byte : ℕ) → is_byte quote byte ≡ true → is_low byte ≡ true
unfolding is_quote is_low
quote-low quote quoting byte is = grind (arith, nat_tests)

pub joint-low : (text : List ℕ) → begins_joint text ≡ true → begins is_low text ≡ true
joint-low [] joint = absurd (cc)
joint-low (byte ∷ text) joint = backslash-low byte (and_parts (is_backslash byte) (begins is_line_feed text) joint).0

-- a text that is a backslash
pub backslash-alone : (text : List ℕ) → begins is_backslash text ≡ true → length (drop 1 text) ≡ 0 → text ≡ 92 ∷ []
backslash-alone [] first none = absurd (cc)
backslash-alone (byte ∷ []) first none = ap (λ b. b ∷ []) (backslash-at byte first)
backslash-alone (byte ∷ next ∷ text) first none = absurd (omega arith)

pub Escape-made : (keep : Bool) (text backslash escaped front rest : List ℕ) (old half new : Option (List ℕ)) → begins is_backslash text ≡ true → backslash ≡ take 1 text → escaped ≡ drop 1 text → SplitsChar escaped front rest
    → ((held : List ℕ) → Holds old held → Holds half (held ++ cond keep backslash [])) → ((held : List ℕ) → Holds half held → Holds new (held ++ front)) → Escape keep text old new rest
Escape-made keep [] backslash escaped front rest old half new first is_first is_rest splits quoted pushed = absurd (cc)
Escape-made keep (byte ∷ text) backslash escaped front rest old half new first is_first is_rest splits quoted pushed =
    let is : byte ≡ 92 = backslash-at byte first in
    let short : backslash ≡ 92 ∷ [] = is_first ∙ ap (λ b. b ∷ []) is in
    record {
      first = splits.first;
      others = splits.others;
      joined = ap (λ b. b ∷ text) is ∙ ap (λ bs. 92 ∷ bs) (sym is_rest ∙ splits.joined ∙ ap (λ bs. bs ++ rest) splits.is_front);
      high = splits.high;
      pushed = λ held holds.
          Holds-same new ((held ++ cond keep backslash []) ++ front) ((held ++ cond keep (92 ∷ []) []) ++ splits.first ∷ splits.others)
          (rw (short, splits.is_front) refl)
          (pushed (held ++ cond keep backslash []) (quoted held holds));
    }

-- what a byte of a quoted piece is that is no line end, no blank and no backslash
pub literal-first : (quote : ℕ) (text : List ℕ) → 0 < length text → begins (is_byte quote) text ≡ false → begins is_line_feed text ≡ false → begins is_blank text ≡ false → begins is_backslash text ≡ false → begins (is_literal quote) text ≡ true
unfolding is_literal
literal-first quote [] filled apart feed blank backslash = absurd (omega arith)
literal-first quote (byte ∷ text) filled apart feed blank backslash = rw (apart, feed, blank, backslash) refl

-- a longest run of bytes that pass is shorter if one passes
pub Splits-shorter : (p : ℕ → Bool) (text front rest : List ℕ) → Splits p text front rest → begins p text ≡ true → length rest < length text
Splits-shorter p text [] rest splits first = absurd (true≢false (sym first ∙ ap (begins p) splits.joined ∙ splits.ends))
Splits-shorter p text (byte ∷ front) rest splits first = omega (arith, ap length splits.joined, length-append (byte ∷ front) rest)

pub Escape-shorter : (keep : Bool) (text rest : List ℕ) (old new : Option (List ℕ)) → Escape keep text old new rest → length rest < length text
Escape-shorter keep text rest old new escape = omega (arith, ap length escape.joined, length-append (92 ∷ escape.first ∷ escape.others) rest)

pub fold-split : (text : List ℕ) → begins_fold text ≡ false → (begins is_line_feed text ≡ false) × (begins_joint text ≡ false)
fold-split text none = or_parts _ _ none

pub fold-joint : (text : List ℕ) → begins_fold text ≡ true → begins is_line_feed text ≡ false → begins_joint text ≡ true
fold-joint text fold other = rw other at fold

pub drop-shorter : (text : List ℕ) → 0 < length text → length (drop 1 text) < length text
drop-shorter [] filled = absurd (omega arith)
drop-shorter (byte ∷ text) filled = omega arith

pub begins-filled : (p : ℕ → Bool) (text : List ℕ) → begins p text ≡ true → 0 < length text
begins-filled p [] first = absurd (cc)
begins-filled p (byte ∷ text) first = omega arith

pub Run-shrinks : {parens keep : Bool} {mode after : Mode} {text rest : List ℕ} {line reached : ℕ} {old new : Option (List ℕ)}
    → Run parens keep mode text line after rest reached old new → length rest ≤ length text
Run-shrinks {rest} a = omega (arith, ap length a.joined, length-append a.bytes rest)

pub not-joint : (parens : Bool) (text : List ℕ) → ends_token parens text ≡ false → begins_joint text ≡ false
not-joint parens text before = (or_parts _ _ (or_parts _ _ before).0).1

-- if a spelling goes on without a quote or a backslash, a byte stands for itself
pub ordinary-first : (parens : Bool) (text : List ℕ) → ends_token parens text ≡ false → begins is_backslash text ≡ false → begins is_quote text ≡ false → begins (is_ordinary parens) text ≡ true
unfolding is_ordinary
ordinary-first parens [] before backslash quote = absurd (true≢false before)
ordinary-first parens (byte ∷ text) before backslash quote =
    let a : ((is_line_feed byte || is_blank byte || is_hash byte || (is_backslash byte && begins is_line_feed text)) ≡ false) × ((parens && is_paren byte) ≡ false) = or_parts _ _ before in
    let b : ((is_line_feed byte || is_blank byte || is_hash byte) ≡ false) × ((is_backslash byte && begins is_line_feed text) ≡ false) = or_parts _ _ a.0 in
    let d : ((is_line_feed byte || is_blank byte) ≡ false) × (is_hash byte ≡ false) = or_parts _ _ b.0 in
    let e : (is_line_feed byte ≡ false) × (is_blank byte ≡ false) = or_parts _ _ d.0 in
    rw (e.0, e.1, d.1, backslash, quote, a.1) refl

-- before such bytes too
pub ends-front : (parens : Bool) (front text : List ℕ) → list_all (is_ordinary parens) front ≡ true → ends_token parens text ≡ false → ends_token parens (front ++ text) ≡ false
ends-front parens [] text all before = before
ends-front parens (byte ∷ front) text all before =
    let is = ordinary-is parens byte (and_parts (is_ordinary parens byte) (list_all (is_ordinary parens) front) all).0 in
    simp (is.0, is.1, is.2, is.3, is.5)

pub paren-is : (byte : ℕ) → is_paren byte ≡ true → (is_line_feed byte ≡ false) × (is_blank byte ≡ false) × (is_hash byte ≡ false) × (is_backslash byte ≡ false) × (is_quote byte ≡ false)
unfolding is_line_feed is_blank is_hash is_backslash is_quote is_paren
paren-is byte paren = (grind (arith, nat_tests), grind (arith, nat_tests), grind (arith, nat_tests), grind (arith, nat_tests), grind (arith, nat_tests))
