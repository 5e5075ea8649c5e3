-- The text of a command is UTF-8, and it is read as itself.
use Rattle.std.proofs.Common.{◌≡◌, ◌⊎◌, inl, inr, ℕ, ◌<◌, Bool, true, false, cond, not, ◌||◌, ◌==◌, List, [], ◌∷◌, None, refl, sym, ap, ◌∙◌, subst, arith, eqb-true, flat_map, take_while}
use Rattle.std.proofs.lemmas.Bool.{false≢true}
use Rattle.std.proofs.lemmas.Bool.Decides.{nat_tests}
use Rattle.std.proofs.lemmas.List.Sums.{take_while-cons}
use Rattle.up_text.specs.Lists.{begins}
use Rattle.up_text.specs.Tokens.{Mark, Part, Quoting, Folded, Blank, Passed, Stop, Mode, Outside, Comment, Escaped, Continued, Quoted, QuotedEscape, marks, mark_of, mark_outside, mark_quoted, mode_after, mode_outside, mode_quoted, open_after, end_marks, feed_mark, is_line_feed, is_blank, is_hash, is_quote, is_backslash, reaches_feed}
use Rattle.up_text.specs.Places.{is_stop, command_bytes, fault_in}
use Rattle.up_image.proofs.Thinning.{Gives, Tells}
use Rattle.up_image.proofs.Spelling.{outside_next, quoted_mark, quoted_next, feed_low, blank_low, hash_low, backslash_low}

-- a mark up to the stanza's end
abbrev pub goes_on : Mark → Bool
goes_on mark = not (is_stop mark)

-- where a byte of a command stands
abbrev pub Stands : Mode → List ℕ → Type 0
Stands (Outside joined) text = Unit {0}
Stands Comment text = ⊥
Stands Escaped text = begins is_line_feed text ≡ false
Stands (Continued joined) text = begins is_line_feed text ≡ true
Stands (Quoted quote joined) text = is_quote quote ≡ true
Stands (QuotedEscape quote) text = (is_quote quote ≡ true) × (begins is_line_feed text ≡ false)

-- where a byte of the command's own text stands: there nothing is joined
abbrev pub quiet : Mode → Mode
quiet (Outside joined) = Outside false
quiet Comment = Outside false
quiet Escaped = Escaped
quiet (Continued joined) = Outside false
quiet (Quoted quote joined) = Quoted quote false
quiet (QuotedEscape quote) = QuotedEscape quote

abbrev pub is_quoted : Mode → Bool
is_quoted (Quoted quote joined) = true
is_quoted other = false

-- a byte before a text without line feeds has this mark, and the next byte stands there
pub record Again (mode : Mode) (b : ℕ) (mark : Mark) (next : Mode) : Type 0 where
  pub marked : mark_of false 0 mode b [] ≡ mark
  pub moved : mode_after mode b [] ≡ next
  pub plain : is_line_feed b ≡ false

-- a mark of a command, by what it is in the command's own text
abbrev pub Follow : Mode → Mark → Mode → Type 0
Follow mode (Part b) next = Again mode b (Part b) next
Follow mode (Quoting b) next = Again mode b (Quoting b) next
Follow mode (Blank b) next = Again mode b (Blank b) next
Follow mode Folded next = (is_quoted mode ≡ true) × (mode ≡ next)
Follow mode Passed next = (mode ≡ Outside false) × (mode ≡ next)
Follow mode other next = ⊥

abbrev pub Follows : Mode → List Mark → Type 0
Follows mode [] = end_marks mode ≡ []
Follows mode (mark ∷ ms) = (next : Mode) × Follow mode mark next × Follows next ms

-- what a byte of a command is: the end; the # of a comment; or a mark that goes on

pub record Carried (mode : Mode) (b : ℕ) (mark : Mark) (next : Mode) (text : List ℕ) : Type 0 where
  pub more : goes_on mark ≡ true
  pub level : open_after 0 mark ≡ 0
  pub sound : (later : List Mark) → fault_in (mark ∷ later) ≡ fault_in later
  pub gives : Gives b (command_bytes mark)
  pub stands : Stands next text
  pub follow : Follow (quiet mode) mark (quiet next)

abbrev Command : Mode → ℕ → Mark → Mode → List ℕ → Type 0
Command mode b mark next text =
    ((goes_on mark ≡ false) × (b < 128) × (quiet mode ≡ Outside false))
    ⊎ (((b < 128) × (mark ≡ Passed) × (next ≡ Comment) × (quiet mode ≡ Outside false)) ⊎ Carried mode b mark next text)

-- bytes outside quotes and comments

abbrev row_mark : ℕ → (f l r h k j q : Bool) → Mark
row_mark b f l r h k j q = cond f Stop (cond l (cond r Passed (Blank b)) (cond h Passed (cond k (cond j Passed (Quoting b)) (cond q (Quoting b) (Part b)))))

blank_again : (b : ℕ) → is_line_feed b ≡ false → is_blank b ≡ true → Again (Outside false) b (Blank b) (Outside false)
blank_again b plain blank = record { marked = rw (plain, blank) refl; moved = rw blank refl; plain = plain }

part_again : (b : ℕ) → is_line_feed b ≡ false → is_blank b ≡ false → is_hash b ≡ false → is_backslash b ≡ false → is_quote b ≡ false → Again (Outside false) b (Part b) (Outside false)
part_again b plain el eh ek eq = record { marked = rw (plain, el, eh, ek, eq) refl; moved = rw (el, eh, ek, eq) refl; plain = plain }

quote_again : (b : ℕ) → is_line_feed b ≡ false → is_blank b ≡ false → is_hash b ≡ false → is_backslash b ≡ false → is_quote b ≡ true → Again (Outside false) b (Quoting b) (Quoted b false)
quote_again b plain el eh ek eq = record { marked = rw (plain, el, eh, ek, eq) refl; moved = rw (el, eh, ek, eq) refl; plain = plain }

escape_again : (b : ℕ) → is_line_feed b ≡ false → is_blank b ≡ false → is_hash b ≡ false → is_backslash b ≡ true → Again (Outside false) b (Quoting b) Escaped
escape_again b plain el eh ek = record { marked = rw (plain, el, eh, ek) refl; moved = rw (el, eh, ek) refl; plain = plain }

row_command : (joined : Bool) (b : ℕ) (text : List ℕ) → Command (Outside joined) b (mark_outside false 0 joined b text) (mode_outside joined b text) text
row_command joined b text =
    by_case (is_line_feed b) (is_blank b) (joined || reaches_feed text) (is_hash b) (is_backslash b) (begins is_line_feed text) (is_quote b) refl refl refl refl refl refl
  where
    by_case : (f l r h k j q : Bool) → is_line_feed b ≡ f → is_blank b ≡ l → is_hash b ≡ h → is_backslash b ≡ k → begins is_line_feed text ≡ j → is_quote b ≡ q
        → Command (Outside joined) b (row_mark b f l r h k j q) (outside_next b joined l h k j q) text
    by_case true l r h k j q ef el eh ek ej eq = inl (refl, feed_low b ef, refl)
    by_case false true true h k j q ef el eh ek ej eq = inr (inr (record { more = refl; level = refl; sound = λ later. refl; gives = inr (blank_low b el, inl refl); stands = tt; follow = (refl, refl) }))
    by_case false true false h k j q ef el eh ek ej eq = inr (inr (record { more = refl; level = refl; sound = λ later. refl; gives = inl (refl, ef); stands = tt; follow = blank_again b ef el }))
    by_case false false r true k j q ef el eh ek ej eq = inr (inl (hash_low b eh, refl, refl, refl))
    by_case false false r false true true q ef el eh ek ej eq = inr (inr (record { more = refl; level = refl; sound = λ later. refl; gives = inr (backslash_low b ek, inl refl); stands = ej; follow = (refl, refl) }))
    by_case false false r false true false q ef el eh ek ej eq = inr (inr (record { more = refl; level = refl; sound = λ later. refl; gives = inl (refl, ef); stands = ej; follow = escape_again b ef el eh ek }))
    by_case false false r false false j true ef el eh ek ej eq = inr (inr (record { more = refl; level = refl; sound = λ later. refl; gives = inl (refl, ef); stands = eq; follow = quote_again b ef el eh ek eq }))
    by_case false false r false false j false ef el eh ek ej eq = inr (inr (record { more = refl; level = refl; sound = λ later. refl; gives = inl (refl, ef); stands = tt; follow = part_again b ef el eh ek eq }))

-- bytes inside quotes

quote_plain : (b : ℕ) → is_quote b ≡ true → is_line_feed b ≡ false
unfolding is_quote is_line_feed
quote_plain b is = grind (arith, nat_tests, is)

space_no_quote : (quote : ℕ) → is_quote quote ≡ true → (32 == quote) ≡ false
unfolding is_quote
space_no_quote quote is = grind (arith, nat_tests, is)

end_again : (quote b : ℕ) → is_quote quote ≡ true → (b == quote) ≡ true → Again (Quoted quote false) b (Quoting b) (Outside false)
end_again quote b is same =
    let plain : is_line_feed b ≡ false = ap is_line_feed (eqb-true b quote same) ∙ quote_plain quote is in
    record { marked = rw same refl; moved = rw same refl; plain = plain }

space_again : (quote : ℕ) → is_quote quote ≡ true → Again (Quoted quote false) 32 (Part 32) (Quoted quote false)
unfolding is_line_feed is_blank
space_again quote is = record { marked = rw (space_no_quote quote is) refl; moved = rw (space_no_quote quote is) refl; plain = refl }

inner_again : (quote b : ℕ) → (b == quote) ≡ false → is_line_feed b ≡ false → is_blank b ≡ true → Again (Quoted quote false) b (Part b) (Quoted quote false)
inner_again quote b es ef el = record { marked = rw (es, ef, el) refl; moved = rw (es, ef, el) refl; plain = ef }

literal_again : (quote b : ℕ) → (b == quote) ≡ false → is_line_feed b ≡ false → is_blank b ≡ false → is_backslash b ≡ false → Again (Quoted quote false) b (Part b) (Quoted quote false)
literal_again quote b es ef el ek = record { marked = rw (es, ef, el, ek) refl; moved = rw (es, ef, el, ek) refl; plain = ef }

inner_escape_again : (quote b : ℕ) → (b == quote) ≡ false → is_line_feed b ≡ false → is_blank b ≡ false → is_backslash b ≡ true → Again (Quoted quote false) b (Quoting b) (QuotedEscape quote)
inner_escape_again quote b es ef el ek = record { marked = rw (es, ef, el, ek) refl; moved = rw (es, ef, el, ek) refl; plain = ef }

quoted_command : (quote : ℕ) (joined : Bool) (b : ℕ) (text : List ℕ) → is_quote quote ≡ true → Command (Quoted quote joined) b (mark_quoted quote joined b text) (mode_quoted quote joined b text) text
quoted_command quote joined b text is =
    by_case (b == quote) (is_line_feed b) joined (is_blank b) (joined || reaches_feed text) (is_backslash b) (begins is_line_feed text) refl refl refl refl refl
  where
    by_case : (s f o l r k j : Bool) → (b == quote) ≡ s → is_line_feed b ≡ f → is_blank b ≡ l → is_backslash b ≡ k → begins is_line_feed text ≡ j
        → Command (Quoted quote joined) b (quoted_mark b s f o l r k j) (quoted_next quote joined s f l k j) text
    by_case true f o l r k j es ef el ek ej =
        inr (inr (record { more = refl; level = refl; sound = λ later. refl; gives = inl (refl, ap is_line_feed (eqb-true b quote es) ∙ quote_plain quote is); stands = tt; follow = end_again quote b is es }))
    by_case false true true l r k j es ef el ek ej = inr (inr (record { more = refl; level = refl; sound = λ later. refl; gives = inr (feed_low b ef, inl refl); stands = is; follow = (refl, refl) }))
    by_case false true false l r k j es ef el ek ej = inr (inr (record { more = refl; level = refl; sound = λ later. refl; gives = inr (feed_low b ef, inr refl); stands = is; follow = space_again quote is }))
    by_case false false o true true k j es ef el ek ej = inr (inr (record { more = refl; level = refl; sound = λ later. refl; gives = inr (blank_low b el, inl refl); stands = is; follow = (refl, refl) }))
    by_case false false o true false k j es ef el ek ej = inr (inr (record { more = refl; level = refl; sound = λ later. refl; gives = inl (refl, ef); stands = is; follow = inner_again quote b es ef el }))
    by_case false false o false r true true es ef el ek ej = inr (inr (record { more = refl; level = refl; sound = λ later. refl; gives = inr (backslash_low b ek, inl refl); stands = is; follow = (refl, refl) }))
    by_case false false o false r true false es ef el ek ej = inr (inr (record { more = refl; level = refl; sound = λ later. refl; gives = inl (refl, ef); stands = (is, ej); follow = inner_escape_again quote b es ef el ek }))
    by_case false false o false r false j es ef el ek ej = inr (inr (record { more = refl; level = refl; sound = λ later. refl; gives = inl (refl, ef); stands = is; follow = literal_again quote b es ef el ek }))

space_row : Again (Outside false) 32 (Blank 32) (Outside false)
unfolding is_line_feed is_blank is_backslash is_hash
space_row = record { marked = refl; moved = refl; plain = refl }

byte_command : (mode : Mode) (b : ℕ) (text : List ℕ) → Stands mode (b ∷ text) → Command mode b (mark_of false 0 mode b text) (mode_after mode b text) text
byte_command (Outside joined) b text stands = row_command joined b text
byte_command Comment b text stands = absurd stands
byte_command Escaped b text stands = inr (inr (record { more = refl; level = refl; sound = λ later. refl; gives = inl (refl, stands); stands = tt; follow = record { marked = refl; moved = refl; plain = stands } }))
byte_command (Continued true) b text stands = inr (inr (record { more = refl; level = refl; sound = λ later. refl; gives = inr (feed_low b stands, inl refl); stands = tt; follow = (refl, refl) }))
byte_command (Continued false) b text stands = inr (inr (record { more = refl; level = refl; sound = λ later. refl; gives = inr (feed_low b stands, inr refl); stands = tt; follow = space_row }))
byte_command (Quoted quote joined) b text stands = quoted_command quote joined b text stands
byte_command (QuotedEscape quote) b text stands = inr (inr (record { more = refl; level = refl; sound = λ later. refl; gives = inl (refl, stands.1); stands = stands.0; follow = record { marked = refl; moved = refl; plain = stands.1 } }))

-- a whole command

abbrev pub front_marks : Mode → List ℕ → List Mark
front_marks mode text = take_while goes_on (marks false 0 mode text)

commented : (text : List ℕ) → (flat_map command_bytes (front_marks Comment text) ≡ []) × Follows (Outside false) (front_marks Comment text)
commented [] = (refl, refl)
commented (b ∷ text) = by_feed (is_line_feed b) (commented text)
  where
    by_feed : (f : Bool) → (flat_map command_bytes (front_marks Comment text) ≡ []) × Follows (Outside false) (front_marks Comment text)
        → (flat_map command_bytes (take_while goes_on (cond f (feed_mark 0) Passed ∷ marks false (open_after 0 (cond f (feed_mark 0) Passed)) (cond f (Outside false) Comment) text)) ≡ [])
        × Follows (Outside false) (take_while goes_on (cond f (feed_mark 0) Passed ∷ marks false (open_after 0 (cond f (feed_mark 0) Passed)) (cond f (Outside false) Comment) text))
    by_feed true later = (refl, refl)
    by_feed false later =
        subst (λ ms. (flat_map command_bytes ms ≡ []) × Follows (Outside false) ms) (sym (take_while-cons goes_on Passed (marks false 0 Comment text))) (later.0, (Outside false, (refl, refl), later.1))

pub record Told (mode : Mode) (text : List ℕ) (ms : List Mark) : Type 0 where
  pub tells : Tells command_bytes text ms
  pub follows : fault_in ms ≡ None → Follows (quiet mode) ms

end_told : (mode : Mode) → Stands mode [] → Told mode [] (front_marks mode [])
end_told (Outside joined) stands = record { tells = tt; follows = λ _. refl }
end_told Comment stands = absurd stands
end_told Escaped stands = record { tells = (refl, tt); follows = λ none. absurd (cc) }
end_told (Continued joined) stands = absurd (false≢true stands)
end_told (Quoted quote joined) stands = record { tells = (refl, tt); follows = λ none. absurd (cc) }
end_told (QuotedEscape quote) stands = record { tells = (refl, tt); follows = λ none. absurd (cc) }

comment_told : (mode : Mode) (b : ℕ) (text : List ℕ) → b < 128 → quiet mode ≡ Outside false → Told mode (b ∷ text) (Passed ∷ front_marks Comment text)
comment_told mode b text low row =
    let later = commented text in
    record { tells = inr (low, later.0); follows = λ _. subst (λ m. Follows m (Passed ∷ front_marks Comment text)) (sym row) (Outside false, (refl, refl), later.1) }

byte_told : (mode : Mode) (b : ℕ) (text : List ℕ) (mark : Mark) (next : Mode) → Command mode b mark next text → (Stands next text → Told next text (front_marks next text))
    → Told mode (b ∷ text) (cond (goes_on mark) (mark ∷ take_while goes_on (marks false (open_after 0 mark) next text)) [])
byte_told mode b text mark next (inl stop) more = rw stop.0 (record { tells = stop.1; follows = λ _. ap end_marks stop.2 })
byte_told mode b text mark next (inr (inl comment)) more =
    subst (λ m. Told mode (b ∷ text) (cond (goes_on m) (m ∷ take_while goes_on (marks false (open_after 0 m) next text)) [])) (sym comment.1)
    (subst (λ n. Told mode (b ∷ text) (Passed ∷ take_while goes_on (marks false 0 n text))) (sym comment.2) (comment_told mode b text comment.0 comment.3))
byte_told mode b text mark next (inr (inr carried)) more =
    let later = more carried.stands in
    subst (λ g. Told mode (b ∷ text) (cond g (mark ∷ take_while goes_on (marks false (open_after 0 mark) next text)) [])) (sym carried.more)
    (subst (λ n. Told mode (b ∷ text) (mark ∷ take_while goes_on (marks false n next text))) (sym carried.level)
    (record { tells = inl (carried.gives, later.tells); follows = λ sound. (quiet next, carried.follow, later.follows (sym (carried.sound (front_marks next text)) ∙ sound)) }))

pub told : (mode : Mode) (text : List ℕ) → Stands mode text → Told mode text (front_marks mode text)
told mode [] stands = end_told mode stands
told mode (b ∷ text) stands =
    let mark = mark_of false 0 mode b text in
    subst (Told mode (b ∷ text)) (sym (take_while-cons goes_on mark (marks false (open_after 0 mark) (mode_after mode b text) text)))
    (byte_told mode b text mark (mode_after mode b text) (byte_command mode b text stands) (λ s. told (mode_after mode b text) text s))
