-- A script can be given: its lines stand before an end line.
use Rattle.std.proofs.Common.{◌≡◌, ℕ, zero, suc, ◌+◌, ◌<◌, Bool, true, false, cond, not, ◌==◌, List, [], ◌∷◌, ◌++◌, length, drop, Option, None, Some, refl, sym, ap, ◌∙◌, subst, arith, append_assoc, length-append, IsUtf8, codes, le-leb}
use Rattle.std.specs.List.{list_all, list_any, concat, onto_first}
use Rattle.std.specs.Str.{IsAscii}
use Rattle.std.proofs.lemmas.Bool.{and_from, and_parts, or_parts, or_left, not_from_false, not-true}
use Rattle.std.proofs.lemmas.List.{drop_at}
use Rattle.std.proofs.lemmas.List.Folds.{concat-append}
use Rattle.std.proofs.lemmas.Slice.Eq.{bytes_eq-Decides}
use Rattle.std.proofs.lemmas.Str.{is_utf8-from_IsUtf8, IsUtf8-nil, IsUtf8-append, IsUtf8-from_ascii}
use Rattle.up_text.specs.Names.{is_value}
use Rattle.up_text.specs.Scripts.{lines_of, script_in, is_end_line}
use Rattle.up_text.specs.Tokens.{is_line_feed, is_blank}
use Rattle.up_stanza.specs.declared.action.Action.TheVariants.{Shell}
use Rattle.up_image.specs.Definable.{is_script, are_lines, can_run}
use Rattle.up_image.specs.declared.limits.TheConstants.{MAX_IMAGE}
use Rattle.up_image.proofs.Thinning.{before_cut, after_cut, push_text}
use Rattle.up_image.proofs.Spelling.{Good, good_rest, feed_low}

-- a line with its line feed
abbrev IsLine : List ℕ → Type 0
IsLine [] = ⊥
IsLine (b ∷ []) = is_line_feed b ≡ true
IsLine (b ∷ next ∷ line) = (is_line_feed b ≡ false) × IsLine (next ∷ line)

-- lines of which the last may lack it
abbrev WholeLines : List (List ℕ) → Type 0
WholeLines [] = Unit {0}
WholeLines (line ∷ []) = Unit {0}
WholeLines (line ∷ next ∷ lines) = IsLine line × WholeLines (next ∷ lines)

abbrev AllLines : List (List ℕ) → Type 0
AllLines [] = Unit {0}
AllLines (line ∷ lines) = IsLine line × AllLines lines

push_line : (b : ℕ) (line : List ℕ) → is_line_feed b ≡ false → IsLine line → IsLine (b ∷ line)
push_line b [] other line = absurd line
push_line b (next ∷ rest) other line = (other, line)

onto_lines : (b : ℕ) (lines : List (List ℕ)) → is_line_feed b ≡ false → WholeLines lines → WholeLines (onto_first b lines)
onto_lines b [] other whole = tt
onto_lines b (line ∷ []) other whole = tt
onto_lines b (line ∷ next ∷ lines) other whole = (push_line b line other whole.0, whole.1)

feed_lines : (b : ℕ) (lines : List (List ℕ)) → is_line_feed b ≡ true → WholeLines lines → WholeLines ((b ∷ []) ∷ lines)
feed_lines b [] feed whole = tt
feed_lines b (line ∷ lines) feed whole = (feed, whole)

whole_lines : (text : List ℕ) → WholeLines (lines_of text)
whole_lines [] = tt
whole_lines (b ∷ text) = by_feed (is_line_feed b) refl (whole_lines text)
  where
    by_feed : (f : Bool) → is_line_feed b ≡ f → WholeLines (lines_of text) → WholeLines (cond f ((b ∷ []) ∷ lines_of text) (onto_first b (lines_of text)))
    by_feed true feed whole = feed_lines b (lines_of text) feed whole
    by_feed false other whole = onto_lines b (lines_of text) other whole

onto_concat : (b : ℕ) (lines : List (List ℕ)) → concat (onto_first b lines) ≡ b ∷ concat lines
onto_concat b [] = refl
onto_concat b (line ∷ lines) = refl

lines_concat : (text : List ℕ) → concat (lines_of text) ≡ text
lines_concat [] = refl
lines_concat (b ∷ text) = by_feed (is_line_feed b) (lines_concat text)
  where
    by_feed : (f : Bool) → concat (lines_of text) ≡ text → concat (cond f ((b ∷ []) ∷ lines_of text) (onto_first b (lines_of text))) ≡ b ∷ text
    by_feed true same = ap (λ t. b ∷ t) same
    by_feed false same = onto_concat b (lines_of text) ∙ ap (λ t. b ∷ t) same

-- the lines of a script

record ScriptLines (all : List (List ℕ)) (script : List (List ℕ) × List ℕ) : Type 0 where
  more : List (List ℕ)
  split : all ≡ script.0 ++ script.1 ∷ more
  lines : AllLines script.0
  goes_on : list_all (λ line. not (is_end_line line)) script.0 ≡ true
  tail : WholeLines (script.1 ∷ more)

one_script : (line : List ℕ) (rest : List (List ℕ)) (script : List (List ℕ) × List ℕ) → WholeLines (line ∷ rest) → is_end_line line ≡ true → script_in (line ∷ rest) ≡ Some script → ScriptLines (line ∷ rest) script
one_script line rest script whole ends is =
    let none : List (List ℕ) = [] in
    let first : script_in (line ∷ rest) ≡ Some (none, line) = rw ends refl in
    let same : (none, line) ≡ script = same_pair (none, line) script (sym first ∙ is) in
    subst (ScriptLines (line ∷ rest)) same (record { more = rest; split = refl; lines = tt; goes_on = refl; tail = whole })
  where
    same_pair : (a b : List (List ℕ) × List ℕ) → Some a ≡ Some b → a ≡ b
    same_pair a b is = cc

script_lines : (all : List (List ℕ)) (script : List (List ℕ) × List ℕ) → WholeLines all → script_in all ≡ Some script → ScriptLines all script
script_lines [] script whole is = absurd (cc)
script_lines (line ∷ []) script whole is = by_end (is_end_line line) refl
  where
    no_script : (◌≡◌ {A = Option (List (List ℕ) × List ℕ)} None (Some script)) → ⊥
    no_script same = cc

    by_end : (e : Bool) → is_end_line line ≡ e → ScriptLines (line ∷ []) script
    by_end true ends = one_script line [] script whole ends is
    by_end false ends = let none : script_in (line ∷ []) ≡ None = rw ends refl in absurd (no_script (sym none ∙ is))
script_lines (line ∷ next ∷ all) script whole is = by_end (is_end_line line) (script_in (next ∷ all)) refl refl (λ found same. script_lines (next ∷ all) found whole.1 same)
  where
    no_script : (◌≡◌ {A = Option (List (List ℕ) × List ℕ)} None (Some script)) → ⊥
    no_script same = cc

    same_pair : (a b : List (List ℕ) × List ℕ) → Some a ≡ Some b → a ≡ b
    same_pair a b is = cc

    by_end : (e : Bool) (found : Option (List (List ℕ) × List ℕ)) → is_end_line line ≡ e → script_in (next ∷ all) ≡ found
        → ((script : List (List ℕ) × List ℕ) → script_in (next ∷ all) ≡ Some script → ScriptLines (next ∷ all) script) → ScriptLines (line ∷ next ∷ all) script
    by_end true found ends same later = one_script line (next ∷ all) script whole ends is
    by_end false None ends same later = let none : script_in (line ∷ next ∷ all) ≡ None = rw (ends, same) refl in absurd (no_script (sym none ∙ is))
    by_end false (Some found) ends same later =
        let first : script_in (line ∷ next ∷ all) ≡ Some (line ∷ found.0, found.1) = rw (ends, same) refl in
        let rest = later found same in
        subst (ScriptLines (line ∷ next ∷ all)) (same_pair (line ∷ found.0, found.1) script (sym first ∙ is)) (record {
          more = rest.more;
          split = ap (λ ls. line ∷ ls) rest.split;
          lines = (whole.0, rest.lines);
          goes_on = and_from _ _ (not_from_false _ ends) rest.goes_on;
          tail = rest.tail;
        })

-- they are read again

line_after : (line rest : List ℕ) → IsLine line → lines_of (line ++ rest) ≡ line ∷ lines_of rest
line_after [] rest line = absurd line
line_after (b ∷ []) rest feed = rw feed refl
line_after (b ∷ next ∷ line) rest is = rw is.0 (ap (onto_first b) (line_after (next ∷ line) rest is.1))

lines_after : (lines : List (List ℕ)) (rest : List ℕ) → AllLines lines → lines_of (concat lines ++ rest) ≡ lines ++ lines_of rest
lines_after [] rest all = refl
lines_after (line ∷ lines) rest all =
    ap lines_of (append_assoc line (concat lines) rest) ∙ line_after line (concat lines ++ rest) all.0 ∙ ap (λ ls. line ∷ ls) (lines_after lines rest all.1)

end_line : is_end_line (codes "end script") ≡ true
unfolding is_end_line is_line_feed is_blank
end_line = refl

end_lines : lines_of (codes "end script") ≡ codes "end script" ∷ []
unfolding is_line_feed
end_lines = refl

script_again : (lines : List (List ℕ)) → list_all (λ line. not (is_end_line line)) lines ≡ true → script_in (lines ++ codes "end script" ∷ []) ≡ Some (lines, codes "end script")
script_again [] goes_on = rw end_line refl
script_again (line ∷ lines) goes_on =
    let parts = and_parts (not (is_end_line line)) (list_all (λ l. not (is_end_line l)) lines) goes_on in
    let other : is_end_line line ≡ false = not-true _ parts.0 in
    let later = script_again lines parts.1 in
    rw (other, later) refl

script_is : (lines : List (List ℕ)) → AllLines lines → list_all (λ line. not (is_end_line line)) lines ≡ true → is_script (concat lines) ≡ true
unfolding is_script
script_is lines all goes_on =
    let found : script_in (lines_of (concat lines ++ codes "end script")) ≡ Some (lines, codes "end script") = ap script_in (lines_after lines (codes "end script") all ∙ ap (λ ls. lines ++ ls) end_lines) ∙ script_again lines goes_on in
    ap (are_lines (concat lines)) found ∙ (bytes_eq-Decides (concat lines) (concat lines)).1 refl

-- they are text

one_text : (b : ℕ) → b < 128 → IsUtf8 (b ∷ [])
one_text b low = IsUtf8-from_ascii (b ∷ []) ascii
  where
    ascii : IsAscii (b ∷ [])
    ascii zero = low
    ascii (suc i) = omega arith

line_cut : (pending line rest : List ℕ) → IsLine line → IsUtf8 (pending ++ (line ++ rest)) → IsUtf8 (pending ++ line) × IsUtf8 rest
line_cut pending [] rest line utf8 = absurd line
line_cut pending (b ∷ []) rest feed utf8 = (IsUtf8-append pending (b ∷ []) (before_cut pending b rest utf8 (feed_low b feed)) (one_text b (feed_low b feed)), after_cut pending b rest utf8 (feed_low b feed))
line_cut pending (b ∷ next ∷ line) rest is utf8 =
    let later = line_cut (pending ++ b ∷ []) (next ∷ line) rest is.1 (push_text pending b ((next ∷ line) ++ rest) utf8) in
    (subst IsUtf8 (append_assoc pending (b ∷ []) (next ∷ line)) later.0, later.1)

lines_cut : (lines : List (List ℕ)) (rest : List ℕ) → AllLines lines → IsUtf8 (concat lines ++ rest) → IsUtf8 (concat lines) × IsUtf8 rest
lines_cut [] rest all utf8 = (IsUtf8-nil, utf8)
lines_cut (line ∷ lines) rest all utf8 =
    let first = line_cut [] line (concat lines ++ rest) all.0 (subst IsUtf8 (append_assoc line (concat lines) rest) utf8) in
    let later = lines_cut lines rest all.1 first.1 in
    (IsUtf8-append line (concat lines) first.0 later.0, later.1)

tail_cut : (last : List ℕ) (more : List (List ℕ)) → WholeLines (last ∷ more) → IsUtf8 (last ++ concat more) → IsUtf8 (concat more)
tail_cut last [] whole utf8 = IsUtf8-nil
tail_cut last (next ∷ more) whole utf8 = (line_cut [] last (concat (next ∷ more)) whole.0 utf8).1

clean_front : (front rest : List ℕ) → list_any (λ byte. byte == 0) (front ++ rest) ≡ false → is_value front ≡ true
clean_front [] rest clean = refl
clean_front (b ∷ front) rest clean =
    let parts = or_parts (b == 0) (list_any (λ byte. byte == 0) (front ++ rest)) clean in
    and_from _ _ (not_from_false _ parts.0) (clean_front front rest parts.1)

-- a script can be given, and what stands after it is good
pub script_good : (text : List ℕ) (script : List (List ℕ) × List ℕ) → Good text → script_in (lines_of text) ≡ Some script → (can_run (Some (Shell (concat script.0))) ≡ true) × Good (drop (length (concat script.0) + length script.1) text)
script_good text script good is =
    let found = script_lines (lines_of text) script (whole_lines text) is in
    let front = concat script.0 in
    let rest = script.1 ++ concat found.more in
    let split : text ≡ front ++ rest = sym (lines_concat text) ∙ ap concat found.split ∙ concat-append script.0 (script.1 ∷ found.more) in
    let cut = lines_cut script.0 rest found.lines (subst IsUtf8 split good.utf8) in
    let long : length text ≡ length front + length rest = ap length split ∙ length-append front rest in
    let size : length (front ++ script.1) ≡ length front + length script.1 = length-append front script.1 in
    let left : drop (length front + length script.1) text ≡ concat found.more = ap (drop (length front + length script.1)) (split ∙ sym (append_assoc front script.1 (concat found.more))) ∙ drop_at (front ++ script.1) (concat found.more) (length front + length script.1) size in
    let clean : is_value front ≡ true = clean_front front rest (ap (list_any (λ byte. byte == 0)) (sym split) ∙ good.clean) in (
      and_from _ _ (and_from _ _ (and_from _ _ (le-leb (length front) MAX_IMAGE (omega (arith, good.short, long))) (is_utf8-from_IsUtf8 front cut.0)) clean) (or_left _ _ (script_is script.0 found.lines found.goes_on)),
      good_rest text (length front + length script.1) good (subst IsUtf8 (sym left) (tail_cut script.1 found.more found.tail cut.1)),
    )
