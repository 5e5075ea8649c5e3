-- What is read where a spelling begins.
use Rattle.std.proofs.Common.{◌≡◌, ℕ, ◌+◌, ◌<◌, Bool, true, false, cond, not, ◌&&◌, ◌||◌, eqb, List, [], ◌∷◌, ◌++◌, Option, None, Some, Ok, Err, inl, inr, map, length, take, drop, refl, sym, ap, ◌∙◌, subst, suc, one-add, add-zero, arith, append-nil}
use Rattle.std.proofs.lemmas.Bool.{and_parts, and_from, or_parts, true≢false, false≢true}
use Rattle.std.proofs.lemmas.List.{take_at, drop_at}
use Rattle.std.proofs.lemmas.Grind.{flat_map-append}
use Rattle.std.proofs.lemmas.List.Folds.{list_all-append}
use Rattle.std.specs.List.{list_all, flat_map, prefix_len, take_while}
use Rattle.up_value.specs.declared.fault.TextFault.{TextFault}
use Rattle.up_value.specs.declared.fault.TextFault.TheVariants.{Memory}
use Rattle.up_text.specs.declared.token.Token.{Token}
use Rattle.up_text.specs.Lexer.{place, is_ordinary, is_spelling, ends_token, is_line_end, Splits, Run, Broken, GivesToken, GivesFault, IsFaultOf, IsAfterGap, begins_gap, passes_feeds, open_at}
use Rattle.up_text.specs.Places.{Place, Reading, Got, Ended, Fails, reading, Answers, line_at, feeds, token_bytes, is_spelled, is_plain, fault_in, spelling_read, read_at, marks_at, place_after, within, token_of}
use Rattle.up_text.specs.Tokens.{Mark, Part, Quoting, Folded, Alone, Blank, Passed, Stop, Fail, Outside, marks, mark_outside, feed_mark, is_line_feed, is_blank, is_hash, is_quote, is_backslash, is_paren, reaches_feed}
use Rattle.up_pattern.specs.Lists.{begins}
use Rattle.up_text.proofs.Runs.{backslash-is, quote-is, paren-is, ends-front, Broken-then, Run-then, Run-ordinary}

-- a longest front of marks that pass

pub prefix_len-front : {X : Type 0} (p : X → Bool) (front later : List X) → list_all p front ≡ true → prefix_len p later ≡ 0 → prefix_len p (front ++ later) ≡ length front
prefix_len-front p [] later all ends = ends
prefix_len-front p (x ∷ front) later all ends =
    let both = and_parts (p x) (list_all p front) all in
    rw (both.0, one-add) (ap suc (prefix_len-front p front later both.1 ends))

pub take_while-all : {X : Type 0} (p : X → Bool) (xs : List X) → list_all p xs ≡ true → take_while p xs ≡ xs
take_while-all p [] all = refl
take_while-all p (x ∷ xs) all =
    let both = and_parts (p x) (list_all p xs) all in
    rw (both.0, one-add) (ap (λ ys. x ∷ ys) (take_while-all p xs both.1))

pub take_while-front : {X : Type 0} (p : X → Bool) (front later : List X) → list_all p front ≡ true → prefix_len p later ≡ 0 → take_while p (front ++ later) ≡ front
take_while-front p front later all ends = rw (prefix_len-front p front later all ends) (take_at front later (length front) refl)

-- marks of a spelling are no fault

spelled-all : (front : List Mark) → list_all is_spelling front ≡ true → list_all is_spelled front ≡ true
spelled-all [] all = refl
spelled-all (Part byte ∷ front) all = spelled-all front all
spelled-all (Quoting byte ∷ front) all = spelled-all front all
spelled-all (Folded ∷ front) all = spelled-all front all
spelled-all (Fail fault ∷ front) all = absurd (false≢true all)
spelled-all (Alone byte ∷ front) all = absurd (false≢true all)
spelled-all (Blank byte ∷ front) all = absurd (false≢true all)
spelled-all (Passed ∷ front) all = absurd (false≢true all)
spelled-all (Stop ∷ front) all = absurd (false≢true all)

pub fault-none : (front later : List Mark) → list_all is_spelling front ≡ true → fault_in (front ++ later) ≡ fault_in later
fault-none [] later all = refl
fault-none (Part byte ∷ front) later all = fault-none front later all
fault-none (Quoting byte ∷ front) later all = fault-none front later all
fault-none (Folded ∷ front) later all = fault-none front later all
fault-none (Fail fault ∷ front) later all = absurd (false≢true all)
fault-none (Alone byte ∷ front) later all = absurd (false≢true all)
fault-none (Blank byte ∷ front) later all = absurd (false≢true all)
fault-none (Passed ∷ front) later all = absurd (false≢true all)
fault-none (Stop ∷ front) later all = absurd (false≢true all)

-- if a token ends, no mark of a spelling stands

ends-mark : (parens : Bool) (depth byte : ℕ) (text : List ℕ) → ends_token parens (byte ∷ text) ≡ true → is_spelled (mark_outside parens depth false byte text) ≡ false
ends-mark parens depth byte text ends =
    by_case (is_line_feed byte) (is_blank byte) (is_hash byte) (is_backslash byte) (begins is_line_feed text) (is_quote byte) (parens && is_paren byte) refl refl refl refl refl refl refl ends
  where
    stops : (stop : Bool) → is_spelled (cond stop Stop Passed) ≡ false
    stops true = refl
    stops false = refl

    blanks : (passed : Bool) → is_spelled (cond passed Passed (Blank byte)) ≡ false
    blanks true = refl
    blanks false = refl

    no_paren : is_paren byte ≡ false → (parens && is_paren byte) ≡ true → ⊥
    no_paren none some = false≢true (sym (by_parens parens none) ∙ some)
      where
        by_parens : (on : Bool) → is_paren byte ≡ false → (on && is_paren byte) ≡ false
        by_parens true none = none
        by_parens false none = refl

    by_case : (f b h k j q p : Bool) → is_line_feed byte ≡ f → is_blank byte ≡ b → is_hash byte ≡ h → is_backslash byte ≡ k → begins is_line_feed text ≡ j → is_quote byte ≡ q → (parens && is_paren byte) ≡ p → (f || b || h || (k && j) || p) ≡ true
        → is_spelled (cond f (feed_mark depth) (cond b (cond (false || reaches_feed text) Passed (Blank byte)) (cond h Passed (cond k (cond j Passed (Quoting byte)) (cond q (Quoting byte) (cond p (Alone byte) (Part byte))))))) ≡ false
    by_case true b h k j q p ef eb eh ek ej eq ep is = stops _
    by_case false true h k j q p ef eb eh ek ej eq ep is = blanks _
    by_case false false true k j q p ef eb eh ek ej eq ep is = refl
    by_case false false false true true q p ef eb eh ek ej eq ep is = refl
    by_case false false false true false q p ef eb eh ek ej eq ep is = absurd (no_paren (backslash-is byte ek).4 (ep ∙ is))
    by_case false false false false j true p ef eb eh ek ej eq ep is = absurd (no_paren (quote-is byte eq).4 (ep ∙ is))
    by_case false false false false j false true ef eb eh ek ej eq ep is = refl
    by_case false false false false j false false ef eb eh ek ej eq ep is = absurd (false≢true is)

pub ends-marks : (parens : Bool) (depth : ℕ) (text : List ℕ) → ends_token parens text ≡ true → prefix_len is_spelled (marks parens depth (Outside false) text) ≡ 0
ends-marks parens depth [] ends = refl
ends-marks parens depth (byte ∷ text) ends = rw (ends-mark parens depth byte text ends) refl

-- what a spelling gives

pub read-front : (at : Place) (front later : List Mark) → 0 < length front → list_all is_spelling front ≡ true → (spelling : List Mark) → take_while is_spelled (front ++ later) ≡ spelling → read_at at (front ++ later) ≡ spelling_read at spelling (fault_in spelling)
read-front at [] later filled all spelling is = absurd (omega arith)
read-front at (Part byte ∷ front) later filled all spelling is = ap (λ s. spelling_read at s (fault_in s)) is
read-front at (Quoting byte ∷ front) later filled all spelling is = ap (λ s. spelling_read at s (fault_in s)) is
read-front at (Folded ∷ front) later filled all spelling is = ap (λ s. spelling_read at s (fault_in s)) is
read-front at (Fail fault ∷ front) later filled all spelling is = absurd (false≢true all)
read-front at (Alone byte ∷ front) later filled all spelling is = absurd (false≢true all)
read-front at (Blank byte ∷ front) later filled all spelling is = absurd (false≢true all)
read-front at (Passed ∷ front) later filled all spelling is = absurd (false≢true all)
read-front at (Stop ∷ front) later filled all spelling is = absurd (false≢true all)

-- a spelling of which something is read
pub filled-front : (parens : Bool) (text bytes rest : List ℕ) (front : List Mark) → text ≡ bytes ++ rest → length front ≡ length bytes → ends_token parens text ≡ false → ends_token parens rest ≡ true → 0 < length front
filled-front parens text [] rest front joined long before beyond = absurd (true≢false (sym beyond ∙ sym (ap (ends_token parens) joined) ∙ before))
filled-front parens text (byte ∷ bytes) rest front joined long before beyond = omega arith

pub place-after : (text bytes rest : List ℕ) (line : ℕ) (inside parens : Bool) (depth n reached : ℕ) → text ≡ bytes ++ rest → n ≡ length bytes → reached ≡ line + feeds bytes → place_after n (place text line inside parens depth) ≡ place rest reached inside parens depth
place-after text bytes rest line inside parens depth n reached joined long counted =
    rw (joined, counted, take_at bytes rest n (sym long), drop_at bytes rest n (sym long)) refl

pub token-read : (parens : Bool) (text rest : List ℕ) (line reached : ℕ) (old new : Option (List ℕ)) (run : Run parens false (Outside false) text line (Outside false) rest reached old new) (inside : Bool) (depth : ℕ)
    → ends_token parens text ≡ false → ends_token parens rest ≡ true
    → GivesToken (place text line inside parens depth) (token_of line (flat_map token_bytes run.front) (list_all is_plain run.front)) (place rest reached true parens depth)
unfolding marks_at
token-read parens text rest line reached old new run inside depth before beyond =
    let at = place text line inside parens depth in
    let later = marks parens depth (Outside false) rest in
    let all = spelled-all run.front run.spelled in
    let stops = ends-marks parens depth rest beyond in
    let whole : take_while is_spelled (run.front ++ later) ≡ run.front = take_while-front is_spelled run.front later all stops in
    let filled = filled-front parens text run.bytes rest run.front run.joined run.long before beyond in
    let sound : fault_in run.front ≡ None = ap fault_in (sym (append-nil run.front)) ∙ fault-none run.front [] run.spelled in
    ap (read_at at) (run.same depth)
    ∙ read-front at run.front later filled run.spelled run.front whole
    ∙ ap (spelling_read at run.front) sound
    ∙ ap (λ p. Got (token_of line (flat_map token_bytes run.front) (list_all is_plain run.front)) (within depth p)) (place-after text run.bytes rest line inside parens depth (length run.front) reached run.joined run.long run.counted)

broken-spelled : (front : List Mark) (fault : TextFault) → list_all is_spelling front ≡ true → list_all is_spelled (front ++ Fail fault ∷ []) ≡ true
broken-spelled front fault all = list_all-append is_spelled front (Fail fault ∷ []) ∙ and_from _ _ (spelled-all front all) refl

pub read-broken : (at : Place) (front : List Mark) (fault : TextFault) → list_all is_spelling front ≡ true → read_at at (front ++ Fail fault ∷ []) ≡ Fails fault
read-broken at [] fault all = refl
read-broken at (m ∷ front) fault all =
    let whole : take_while is_spelled ((m ∷ front) ++ Fail fault ∷ []) ≡ (m ∷ front) ++ Fail fault ∷ [] =
    take_while-all is_spelled ((m ∷ front) ++ Fail fault ∷ []) (broken-spelled (m ∷ front) fault all) in
    read-front at (m ∷ front) (Fail fault ∷ []) (omega arith) all ((m ∷ front) ++ Fail fault ∷ []) whole
    ∙ ap (spelling_read at ((m ∷ front) ++ Fail fault ∷ [])) (fault-none (m ∷ front) (Fail fault ∷ []) all)

pub token-broken : (parens : Bool) (text : List ℕ) (line : ℕ) (fault : TextFault) (inside : Bool) (depth : ℕ) → Broken parens (Outside false) text fault → GivesFault (place text line inside parens depth) fault
unfolding marks_at
token-broken parens text line fault inside depth broken =
    let at = place text line inside parens depth in
    rw (broken.same depth, read-broken at broken.front fault broken.spelled) refl

-- if a token is read, the fault of memory may come
pub token-memory : (at : Place) (token : Token) (beyond : Place) → GivesToken at token beyond → GivesFault at Memory
token-memory at token beyond gives = rw gives refl

-- a plain token
pub ordinary-read : (parens : Bool) (text front rest : List ℕ) (line : ℕ) (inside : Bool) (depth : ℕ) → Splits (is_ordinary parens) text front rest → ends_token parens text ≡ false → ends_token parens rest ≡ true
    → GivesToken (place text line inside parens depth) (token_of line front true) (place rest line true parens depth)
unfolding Run-ordinary
ordinary-read parens text front rest line inside depth splits before beyond =
    let run = Run-ordinary parens false text front rest line None None splits (λ held holds. tt) in
    subst (λ t. GivesToken (place text line inside parens depth) t (place rest line true parens depth)) (is_plain_token front)
    (token-read parens text rest line line None None run inside depth before beyond)
  where
    plain-parts : (bytes : List ℕ) → list_all is_plain (map Part bytes) ≡ true
    plain-parts [] = refl
    plain-parts (byte ∷ bytes) = plain-parts bytes

    given-parts : (bytes : List ℕ) → flat_map token_bytes (map Part bytes) ≡ bytes
    given-parts [] = refl
    given-parts (byte ∷ bytes) = ap (λ bs. byte ∷ bs) (given-parts bytes)

    is_plain_token : (bytes : List ℕ) → token_of line (flat_map token_bytes (map Part bytes)) (list_all is_plain (map Part bytes)) ≡ token_of line bytes true
    is_plain_token bytes = rw (plain-parts bytes, given-parts bytes) refl

-- after bytes that stand for themselves comes a quote or a backslash
quoting-first : (parens : Bool) (depth : ℕ) (byte : ℕ) (text : List ℕ) → ends_token parens (byte ∷ text) ≡ false → is_ordinary parens byte ≡ false → is_plain (mark_outside parens depth false byte text) ≡ false
unfolding is_ordinary
quoting-first parens depth byte text before other =
    by_case (is_line_feed byte) (is_blank byte) (is_hash byte) (is_backslash byte) (begins is_line_feed text) (is_quote byte) (parens && is_paren byte) before other
  where
    by_case : (f b h k j q p : Bool) → (f || b || h || (k && j) || p) ≡ false → not (f || b || h || k || q || p) ≡ false
        → is_plain (cond f (feed_mark depth) (cond b (cond (false || reaches_feed text) Passed (Blank byte)) (cond h Passed (cond k (cond j Passed (Quoting byte)) (cond q (Quoting byte) (cond p (Alone byte) (Part byte))))))) ≡ false
    by_case true b h k j q p none some = absurd (cc)
    by_case false true h k j q p none some = absurd (cc)
    by_case false false true k j q p none some = absurd (cc)
    by_case false false false true true q p none some = absurd (cc)
    by_case false false false true false q p none some = refl
    by_case false false false false j true p none some = refl
    by_case false false false false j false true none some = absurd (cc)
    by_case false false false false j false false none some = absurd (cc)

pub plain-no : (parens keep : Bool) (text rest : List ℕ) (line reached : ℕ) (old new : Option (List ℕ)) (run : Run parens keep (Outside false) text line (Outside false) rest reached old new)
    → ends_token parens text ≡ false → begins (is_ordinary parens) text ≡ false → ends_token parens rest ≡ true → list_all is_plain run.front ≡ false
plain-no parens keep [] rest line reached old new run before other beyond = absurd (true≢false before)
plain-no parens keep (byte ∷ text) rest line reached old new run before other beyond =
    by_front run.front (run.same 0) (filled-front parens (byte ∷ text) run.bytes rest run.front run.joined run.long before beyond)
  where
    by_front : (front : List Mark) → marks parens 0 (Outside false) (byte ∷ text) ≡ front ++ marks parens 0 (Outside false) rest → 0 < length front → list_all is_plain front ≡ false
    by_front [] same filled = absurd (omega arith)
    by_front (m ∷ front) same filled =
        let first : m ≡ mark_outside parens 0 false byte text = cc in
        rw (first, quoting-first parens 0 byte text before other) refl

given-parts : (bytes : List ℕ) → flat_map token_bytes (map Part bytes) ≡ bytes
given-parts [] = refl
given-parts (byte ∷ bytes) = ap (λ bs. byte ∷ bs) (given-parts bytes)

-- a token whose spelling goes on with a quote or a backslash
pub spelled-read : (parens : Bool) (front text rest : List ℕ) (line reached : ℕ) (old new : Option (List ℕ)) (run : Run parens false (Outside false) text line (Outside false) rest reached old new) (inside : Bool) (depth : ℕ)
    → list_all (is_ordinary parens) front ≡ true → ends_token parens text ≡ false → begins (is_ordinary parens) text ≡ false → ends_token parens rest ≡ true
    → GivesToken (place (front ++ text) line inside parens depth) (token_of line (front ++ flat_map token_bytes run.front) false) (place rest reached true parens depth)
unfolding Run-then Run-ordinary
spelled-read parens front text rest line reached old new run inside depth all before other beyond =
    let first : Run parens false (Outside false) (front ++ text) line (Outside false) text line None None =
    Run-ordinary parens false (front ++ text) front text line None None (record { joined = refl; all = all; ends = other }) (λ held holds. tt) in
    let second : Run parens false (Outside false) text line (Outside false) rest reached None None =
    record { bytes = run.bytes; front = run.front; joined = run.joined; same = run.same; long = run.long; spelled = run.spelled; counted = run.counted; pushed = λ held holds. tt } in
    let read = token-read parens (front ++ text) rest line reached None None (Run-then first second) inside depth (ends-front parens front text all before) beyond in
    let plain : list_all is_plain (map Part front ++ run.front) ≡ false =
    list_all-append is_plain (map Part front) run.front ∙ ap (λ b. list_all is_plain (map Part front) && b) (plain-no parens false text rest line reached old new run before other beyond) ∙ and-false (list_all is_plain (map Part front)) in
    let text_is : flat_map token_bytes (map Part front ++ run.front) ≡ front ++ flat_map token_bytes run.front = flat_map-append token_bytes (map Part front) run.front ∙ ap (λ bs. bs ++ flat_map token_bytes run.front) (given-parts front) in
    rw (plain, text_is) at read
  where
    and-false : (b : Bool) → (b && false) ≡ false
    and-false true = refl
    and-false false = refl

-- and where it is refused
pub ordinary-broken : (parens : Bool) (front text : List ℕ) (line : ℕ) (fault : TextFault) (inside : Bool) (depth : ℕ) → list_all (is_ordinary parens) front ≡ true → begins (is_ordinary parens) text ≡ false → Broken parens (Outside false) text fault
    → GivesFault (place (front ++ text) line inside parens depth) fault
ordinary-broken parens front text line fault inside depth all other broken =
    let first : Run parens false (Outside false) (front ++ text) line (Outside false) text line None None =
    Run-ordinary parens false (front ++ text) front text line None None (record { joined = refl; all = all; ends = other }) (λ held holds. tt) in
    token-broken parens (front ++ text) line fault inside depth (Broken-then first broken)

-- a parenthesis that is a token
pub paren-read : (text : List ℕ) (line : ℕ) (inside : Bool) (depth : ℕ) → begins is_paren text ≡ true → GivesToken (place text line inside true depth) (token_of line (take 1 text) true) (place (drop 1 text) line true true (open_at text depth))
unfolding marks_at
paren-read [] line inside depth paren = absurd (cc)
paren-read (byte ∷ text) line inside depth paren =
    let is = paren-is byte paren in
    rw (is.0, is.1, is.2, is.3, is.4, paren) (rw (is.0, add-zero) refl)

-- what the parts of a lexer call read, if the text is after a gap
pub reading-after : (before after : Place) → IsAfterGap before after → reading before ≡ read_at after (marks_at after)
unfolding reading
reading-after before after beyond = rw (← beyond.at, ← beyond.marked) refl

pub end-read : (rest : List ℕ) (line : ℕ) (inside parens : Bool) (depth : ℕ) → is_line_end rest ≡ true → begins_gap (passes_feeds inside depth) rest ≡ false
    → read_at (place rest line inside parens depth) (marks_at (place rest line inside parens depth)) ≡ Ended (place (drop 1 rest) (line + feeds (take 1 rest)) false parens 0)
unfolding marks_at
end-read [] line inside parens depth ends beyond = rw add-zero refl
end-read (byte ∷ rest) line inside parens depth feed beyond =
    let none : eqb depth 0 ≡ true = no_depth inside (eqb depth 0) (or_parts _ _ (rw feed at beyond)).1 in
    rw (feed, none) (ap (λ n. Ended (place rest (line + n) false parens 0)) (one feed))
  where
    one : is_line_feed byte ≡ true → feeds (byte ∷ []) ≡ 1
    one feed = rw feed refl

    no_depth : (inside none : Bool) → ((not inside || not none) && true) ≡ false → none ≡ true
    no_depth true true is = refl
    no_depth true false is = absurd (true≢false is)
    no_depth false true is = absurd (true≢false is)
    no_depth false false is = absurd (true≢false is)

-- what a call answers

pub Answers-end : (old beyond new : Place) → reading old ≡ Ended beyond → new ≡ beyond → Answers old (reading old) (Ok None) new
Answers-end old beyond new read same = rw read (refl, same)

pub Answers-token : (old beyond new : Place) (token : Token) → reading old ≡ Got token beyond → new ≡ beyond → Answers old (reading old) (Ok (Some token)) new
Answers-token old beyond new token read same = rw read (inl (refl, same))

pub Answers-fault : (old : Place) (read : Reading) (fault : TextFault) → IsFaultOf read fault → Answers old read (Err fault) old
Answers-fault old (Got token beyond) fault is = inr (ap Err is, refl)
Answers-fault old (Ended beyond) fault is = absurd is
Answers-fault old (Fails refused) fault is = (ap Err is, refl)

-- a finished text

pub list_all-rest : (p : Mark → Bool) (ms : List Mark) → list_all p ms ≡ list_all p (drop (prefix_len p ms) ms)
list_all-rest p [] = refl
list_all-rest p (m ∷ ms) = by_case (p m) refl (list_all-rest p ms)
  where
    by_case : (b : Bool) → p m ≡ b → list_all p ms ≡ list_all p (drop (prefix_len p ms) ms) → list_all p (m ∷ ms) ≡ list_all p (drop (prefix_len p (m ∷ ms)) (m ∷ ms))
    by_case true e ih = rw (e, one-add) ih
    by_case false e ih = rw e (rw e refl)

pub feeds-first : (text : List ℕ) → begins is_line_feed text ≡ true → feeds (take 1 text) ≡ 1
feeds-first [] feed = absurd (false≢true feed)
feeds-first (byte ∷ text) feed = rw feed refl

pub line-read : (before after : Place) → IsAfterGap before after → after.line ≡ line_at before
line-read before after beyond = ap (λ p. p.line) beyond.at
