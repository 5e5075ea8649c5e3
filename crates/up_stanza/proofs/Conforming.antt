-- A file's bytes write the stanzas that are read, and no others.
use Rattle.std.proofs.Common.{◌≡◌, ℕ, zero, suc, ◌+◌, ◌<◌, Bool, true, false, List, [], ◌∷◌, length, inl, inr, ◌↔◌, Option, Some, None, Result, Ok, Err, cond, refl, sym, ◌∙◌, ap, subst, arith}
use Rattle.up_text.specs.declared.token.Token.{Token}
use Rattle.up_text.specs.Lexemes.{Word, lexeme_by, lexemes_of}
use Rattle.up_text.specs.Places.{Place, Got, start, reading, line_at, is_finished}
use Rattle.up_text.proofs.Lexemes.{lexemes_of-is, none_when_finished}
use Rattle.up_stanza.specs.declared.stanza.Stanza.{Stanza}
use Rattle.up_stanza.specs.Confs.{is_readable, has_few_keys, stanzas_unless, within_limits, conf_of}
use Rattle.up_stanza.specs.FirstFaults.{StopsAt, IsFront, FirstFault}
use Rattle.up_stanza.specs.Grammar.{StandsAt, Written, Conf}
use Rattle.up_stanza.specs.Stanzas.{Found, Readable, stanza_at, stanza_then, stanzas_from, stanzas_of}
use Rattle.up_stanza.proofs.Saying.{stanzas_finished, stanzas_more}
use Rattle.up_stanza.proofs.Shrinking.{stanza_less}
use Rattle.up_stanza.proofs.Standing.{StandsAt-stanza_at, stanza_at-StandsAt, stanza_first}

-- after the end of a text nothing is read
goes_on : (place next : Place) (token : Token) → reading place ≡ Got token next → is_finished place ≡ false
goes_on place next token got = by_case (is_finished place) refl
  where
    by_case : (finished : Bool) → is_finished place ≡ finished → is_finished place ≡ false
    by_case true finished =
        let some : lexemes_of place ≡ Word token ∷ lexemes_of next = lexemes_of-is place ∙ ap (lexeme_by (λ after. lexemes_of after) place) got in
        let none = none_when_finished place finished in
        cc
    by_case false finished = finished

-- stanzas that are written are read
readable-Written : (place : Place) (readable : List Stanza) → Written place readable → stanzas_of place ≡ (readable, None)
readable-Written place [] finished = stanzas_finished place finished
readable-Written place (stanza ∷ readable) written =
    let read = stanza_at-StandsAt place stanza written.0 written.1 in
    let first = stanza_first place stanza written.0 read in
    stanzas_more place (Some (stanza, written.0)) (goes_on place first.1 first.0 first.2) read
    ∙ ap (λ (others : Readable). (stanza ∷ others.0, others.1)) (readable-Written written.0 readable written.2)

-- and only these
written_from : (n : ℕ) (place : Place) (readable : List Stanza) → length place.rest < n → stanzas_from n place ≡ (readable, None) → Written place readable
unfolding stanzas_from
written_from zero place readable few is = absurd (omega (arith, few))
written_from (suc n) place readable few is =
    by_finished (is_finished place) refl is (λ after others less is. written_from n after others (omega (arith, less, few)) is)
  where
    by_found : (found : Found Stanza) → stanza_at place ≡ found → stanza_then (λ after. stanzas_from n after) (line_at place) found ≡ (readable, None)
        → ((after : Place) (others : List Stanza) → length after.rest < length place.rest → stanzas_from n after ≡ (others, None) → Written after others) → Written place readable
    by_found None e is more =
        let line : Some (line_at place) ≡ None = ap (λ (p : Readable). p.1) is in
        cc
    by_found (Some found) e is more =
        let others = stanzas_from n found.1 in
        let whole = ap (λ (p : Readable). p.1) is in
        let same = ap (λ (p : Readable). p.0) is in
        subst (Written place) same (found.1, StandsAt-stanza_at place found.0 found.1 e, more found.1 others.0 (stanza_less place found.0 found.1 e) (ap (λ none. (others.0, none)) whole))

    by_finished : (finished : Bool) → is_finished place ≡ finished → cond finished ([], None) (stanza_then (λ after. stanzas_from n after) (line_at place) (stanza_at place)) ≡ (readable, None)
        → ((after : Place) (others : List Stanza) → length after.rest < length place.rest → stanzas_from n after ≡ (others, None) → Written after others) → Written place readable
    by_finished true e is more =
        subst (Written place) (ap (λ (p : Readable). p.0) is) e
    by_finished false e is more = by_found (stanza_at place) refl is more

Written-readable : (place : Place) (readable : List Stanza) → stanzas_of place ≡ (readable, None) → Written place readable
unfolding stanzas_of
Written-readable place readable is = written_from (length place.rest + 1) place readable (omega arith) is

pub conf_of-Conf : (bytes : List ℕ) (stanzas : List Stanza) → Conf bytes stanzas → conf_of bytes ≡ Ok stanzas
unfolding conf_of
conf_of-Conf bytes stanzas conf = rw (conf.text, readable-Written (start bytes) stanzas conf.written, conf.few) refl

pub conf_is : (bytes : List ℕ) (stanzas : List Stanza) → conf_of bytes ≡ Ok stanzas → Conf bytes stanzas
unfolding conf_of
conf_is bytes stanzas is = by_text (is_readable bytes) (stanzas_of (start bytes)).0 (stanzas_of (start bytes)).1 refl refl is
  where
    by_line : (readable : List Stanza) (line : Option ℕ) → is_readable bytes ≡ true → stanzas_of (start bytes) ≡ (readable, line) → has_few_keys readable ≡ true → stanzas_unless readable line ≡ Ok stanzas → Conf bytes stanzas
    by_line readable (Some line) text e few is = absurd (cc)
    by_line readable None text e few is =
        let same : readable ≡ stanzas = cc in
        subst (Conf bytes) same (record { text = text; written = Written-readable (start bytes) readable e; few = few })

    by_few : (few : Bool) (readable : List Stanza) (line : Option ℕ) → is_readable bytes ≡ true → stanzas_of (start bytes) ≡ (readable, line) → has_few_keys readable ≡ few → cond few (stanzas_unless readable line) (Err 1) ≡ Ok stanzas → Conf bytes stanzas
    by_few false readable line text e few is = absurd (cc)
    by_few true readable line text e few is = by_line readable line text e few is

    by_text : (text : Bool) (readable : List Stanza) (line : Option ℕ) → is_readable bytes ≡ text → stanzas_of (start bytes) ≡ (readable, line) → cond text (within_limits (readable, line)) (Err 1) ≡ Ok stanzas → Conf bytes stanzas
    by_text false readable line text e is = absurd (cc)
    by_text true readable line text e is = by_few (has_few_keys readable) readable line text e refl is

pub conf_is_not : (bytes : List ℕ) (line : ℕ) → conf_of bytes ≡ Err line → (stanzas : List Stanza) → Conf bytes stanzas → ⊥
conf_is_not bytes line is stanzas conf = let good = conf_of-Conf bytes stanzas conf in cc

some_same : (a b : ℕ) → (◌≡◌ {A = Option ℕ} (Some a) (Some b)) → a ≡ b
some_same a b same = cc

no_line : (a : ℕ) → (◌≡◌ {A = Option ℕ} None (Some a)) → ⊥
no_line a same = cc

-- where a first stanza is unreadable none stands
none_stands : (place : Place) → stanza_at place ≡ None → (stanza : Stanza) (after : Place) → StandsAt place stanza after → ⊥
none_stands place none stanza after stands = clash (sym none ∙ stanza_at-StandsAt place stanza after stands)
  where
    clash : (◌≡◌ {A = Found Stanza} None (Some (stanza, after))) → ⊥
    clash same = cc

-- the stanzas up to an unreadable one are read
readable-StopsAt : (place : Place) (readable : List Stanza) (line : ℕ) → StopsAt place readable line → stanzas_of place ≡ (readable, Some line)
readable-StopsAt place [] line stops = by_found (stanza_at place) refl
  where
    by_found : (found : Found Stanza) → stanza_at place ≡ found → stanzas_of place ≡ ([], Some line)
    by_found None none = stanzas_more place None stops.0 none ∙ ap (λ l. ([], Some l)) (sym stops.2)
    by_found (Some found) is = absurd (stops.1 found.0 found.1 (StandsAt-stanza_at place found.0 found.1 is))
readable-StopsAt place (stanza ∷ readable) line stops =
    let read = stanza_at-StandsAt place stanza stops.0 stops.1 in
    let first = stanza_first place stanza stops.0 read in
    stanzas_more place (Some (stanza, stops.0)) (goes_on place first.1 first.0 first.2) read
    ∙ ap (λ (others : Readable). (stanza ∷ others.0, others.1)) (readable-StopsAt stops.0 readable line stops.2)

-- and only these
stops_from : (n : ℕ) (place : Place) (readable : List Stanza) (line : ℕ) → length place.rest < n → stanzas_from n place ≡ (readable, Some line) → StopsAt place readable line
unfolding stanzas_from
stops_from zero place readable line few is = absurd (omega (arith, few))
stops_from (suc n) place readable line few is =
    by_finished (is_finished place) refl is (λ after others less is. stops_from n after others line (omega (arith, less, few)) is)
  where
    by_found : (found : Found Stanza) → stanza_at place ≡ found → is_finished place ≡ false → stanza_then (λ after. stanzas_from n after) (line_at place) found ≡ (readable, Some line)
        → ((after : Place) (others : List Stanza) → length after.rest < length place.rest → stanzas_from n after ≡ (others, Some line) → StopsAt after others line) → StopsAt place readable line
    by_found None e goes is more =
        let same = ap (λ (p : Readable). p.0) is in
        let at : Some (line_at place) ≡ Some line = ap (λ (p : Readable). p.1) is in
        subst (λ s. StopsAt place s line) same (goes, none_stands place e, some_same line (line_at place) (sym at))
    by_found (Some found) e goes is more =
        let others = stanzas_from n found.1 in
        let stop = ap (λ (p : Readable). p.1) is in
        let same = ap (λ (p : Readable). p.0) is in
        subst (λ s. StopsAt place s line) same (found.1, StandsAt-stanza_at place found.0 found.1 e, more found.1 others.0 (stanza_less place found.0 found.1 e) (ap (λ l. (others.0, l)) stop))

    by_finished : (finished : Bool) → is_finished place ≡ finished → cond finished ([], None) (stanza_then (λ after. stanzas_from n after) (line_at place) (stanza_at place)) ≡ (readable, Some line)
        → ((after : Place) (others : List Stanza) → length after.rest < length place.rest → stanzas_from n after ≡ (others, Some line) → StopsAt after others line) → StopsAt place readable line
    by_finished true e is more = absurd (no_line line (ap (λ (p : Readable). p.1) is))
    by_finished false e is more = by_found (stanza_at place) refl e is more

StopsAt-readable : (place : Place) (readable : List Stanza) (line : ℕ) → stanzas_of place ≡ (readable, Some line) → StopsAt place readable line
unfolding stanzas_of
StopsAt-readable place readable line is = stops_from (length place.rest + 1) place readable line (omega arith) is

-- what is read is all that stands before the first unreadable stanza
front_is : (place : Place) (readable : List Stanza) (line : Option ℕ) → stanzas_of place ≡ (readable, line) → IsFront place readable
front_is place readable None is = inl (Written-readable place readable is)
front_is place readable (Some line) is = inr (line, StopsAt-readable place readable line is)

is_front : (place : Place) (readable : List Stanza) → IsFront place readable → (stanzas_of place).0 ≡ readable
is_front place readable (inl written) = ap (λ (p : Readable). p.0) (readable-Written place readable written)
is_front place readable (inr stops) = ap (λ (p : Readable). p.0) (readable-StopsAt place readable stops.0 stops.1)

err_same : (a b : ℕ) → (◌≡◌ {A = Result (List Stanza) ℕ} (Err a) (Err b)) → b ≡ a
err_same a b same = cc

ok_err : (stanzas : List Stanza) (b : ℕ) → (◌≡◌ {A = Result (List Stanza) ℕ} (Ok stanzas) (Err b)) → ⊥
ok_err stanzas b same = cc

pub first_fault : (bytes : List ℕ) (line : ℕ) → conf_of bytes ≡ Err line → FirstFault bytes line
unfolding conf_of
first_fault bytes line is = by_text (is_readable bytes) (stanzas_of (start bytes)).0 (stanzas_of (start bytes)).1 refl refl is
  where
    by_line : (readable : List Stanza) (found : Option ℕ) → is_readable bytes ≡ true → stanzas_of (start bytes) ≡ (readable, found) → has_few_keys readable ≡ true → stanzas_unless readable found ≡ Err line → FirstFault bytes line
    by_line readable None text e few is = absurd (ok_err readable line is)
    by_line readable (Some found) text e few is = subst (FirstFault bytes) (sym (err_same found line is)) (inr (text, readable, StopsAt-readable (start bytes) readable found e, few))

    by_few : (few : Bool) (readable : List Stanza) (found : Option ℕ) → is_readable bytes ≡ true → stanzas_of (start bytes) ≡ (readable, found) → has_few_keys readable ≡ few → cond few (stanzas_unless readable found) (Err 1) ≡ Err line → FirstFault bytes line
    by_few false readable found text e few is = inl (inr (text, readable, front_is (start bytes) readable found e, few), err_same 1 line is)
    by_few true readable found text e few is = by_line readable found text e few is

    by_text : (text : Bool) (readable : List Stanza) (found : Option ℕ) → is_readable bytes ≡ text → stanzas_of (start bytes) ≡ (readable, found) → cond text (within_limits (readable, found)) (Err 1) ≡ Err line → FirstFault bytes line
    by_text false readable found text e is = inl (inl text, err_same 1 line is)
    by_text true readable found text e is = by_few (has_few_keys readable) readable found text e refl is

pub fault_first : (bytes : List ℕ) (line : ℕ) → FirstFault bytes line → conf_of bytes ≡ Err line
unfolding conf_of
fault_first bytes line (inl (inl text, one)) = rw (text, one) refl
fault_first bytes line (inl (inr whole, one)) =
    let front = is_front (start bytes) whole.1 whole.2 in
    rw (whole.0, front, whole.3, one) refl
fault_first bytes line (inr at) = rw (at.0, readable-StopsAt (start bytes) at.1 line at.2, at.3) refl

pub conf_both : (bytes : List ℕ) (stanzas : List Stanza) → conf_of bytes ≡ Ok stanzas ↔ Conf bytes stanzas
conf_both bytes stanzas = (conf_is bytes stanzas, conf_of-Conf bytes stanzas)

pub fault_both : (bytes : List ℕ) (line : ℕ) → conf_of bytes ≡ Err line ↔ FirstFault bytes line
fault_both bytes line = (first_fault bytes line, fault_first bytes line)
