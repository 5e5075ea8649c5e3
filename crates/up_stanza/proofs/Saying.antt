-- The stanzas of a text, one after another.
use Rattle.std.proofs.Common.{◌≡◌, ℕ, zero, suc, ◌+◌, ◌<◌, Bool, true, false, List, [], ◌∷◌, ◌++◌, length, None, Some, cond, refl, sym, ◌∙◌, ap, arith, append_assoc, append-nil}
use Rattle.up_text.specs.Places.{Place, line_at, is_finished}
use Rattle.up_stanza.specs.declared.stanza.Stanza.{Stanza}
use Rattle.up_stanza.specs.Reading.{stanzas_before}
use Rattle.up_stanza.specs.Stanzas.{Found, Readable, stanza_at, stanza_then, stanzas_from, stanzas_of}
use Rattle.up_stanza.proofs.Shrinking.{stanza_less}

-- more stanzas than enough are no more
enough : (n k : ℕ) (place : Place) → length place.rest < n → length place.rest < k → stanzas_from n place ≡ stanzas_from k place
unfolding stanzas_from
enough zero k place few many = absurd (omega (arith, few))
enough (suc n) zero place few many = absurd (omega (arith, many))
enough (suc n) (suc k) place few many = by_finished (is_finished place) (λ after less. enough n k after (omega (arith, less, few)) (omega (arith, less, many)))
  where
    by_found : (found : Found Stanza) → stanza_at place ≡ found → ((after : Place) → length after.rest < length place.rest → stanzas_from n after ≡ stanzas_from k after)
        → stanza_then (λ after. stanzas_from n after) (line_at place) found ≡ stanza_then (λ after. stanzas_from k after) (line_at place) found
    by_found None is more = refl
    by_found (Some found) is more = ap (λ (readable : Readable). (found.0 ∷ readable.0, readable.1)) (more found.1 (stanza_less place found.0 found.1 is))

    by_finished : (finished : Bool) → ((after : Place) → length after.rest < length place.rest → stanzas_from n after ≡ stanzas_from k after)
        → cond finished ([], None) (stanza_then (λ after. stanzas_from n after) (line_at place) (stanza_at place)) ≡ cond finished ([], None) (stanza_then (λ after. stanzas_from k after) (line_at place) (stanza_at place))
    by_finished true more = refl
    by_finished false more = by_found (stanza_at place) refl more

one_more : (n : ℕ) (place : Place) → stanzas_from (suc n) place ≡ cond (is_finished place) ([], None) (stanza_then (λ after. stanzas_from n after) (line_at place) (stanza_at place))
unfolding stanzas_from
one_more n place = refl

-- what is left is a stanza, and what is left after it
pub stanzas_of-is : (place : Place) → stanzas_of place ≡ cond (is_finished place) ([], None) (stanza_then (λ after. stanzas_of after) (line_at place) (stanza_at place))
unfolding stanzas_of
stanzas_of-is place =
    enough (length place.rest + 1) (suc (length place.rest)) place (omega arith) (omega arith) ∙ one_more (length place.rest) place ∙ by_finished (is_finished place)
  where
    by_found : (found : Found Stanza) → stanza_at place ≡ found → stanza_then (λ after. stanzas_from (length place.rest) after) (line_at place) found ≡ stanza_then (λ after. stanzas_from (length after.rest + 1) after) (line_at place) found
    by_found None is = refl
    by_found (Some found) is =
        ap (λ (readable : Readable). (found.0 ∷ readable.0, readable.1)) (let less = stanza_less place found.0 found.1 is in enough (length place.rest) (length found.1.rest + 1) found.1 (omega (arith, less)) (omega arith))

    by_finished : (finished : Bool) → cond finished ([], None) (stanza_then (λ after. stanzas_from (length place.rest) after) (line_at place) (stanza_at place)) ≡ cond finished ([], None) (stanza_then (λ after. stanzas_from (length after.rest + 1) after) (line_at place) (stanza_at place))
    by_finished true = refl
    by_finished false = by_found (stanza_at place) refl

pub stanzas_finished : (place : Place) → is_finished place ≡ true → stanzas_of place ≡ ([], None)
stanzas_finished place finished = stanzas_of-is place ∙ rw finished refl

pub stanzas_more : (place : Place) (found : Found Stanza) → is_finished place ≡ false → stanza_at place ≡ found → stanzas_of place ≡ stanza_then (λ after. stanzas_of after) (line_at place) found
stanzas_more place found goes_on is = stanzas_of-is place ∙ rw (goes_on, is) refl

-- with the stanzas before them

pub after_more : (stanzas : List Stanza) (place after : Place) (stanza : Stanza) → is_finished place ≡ false → stanza_at place ≡ Some (stanza, after)
    → stanzas_before (stanzas ++ stanza ∷ []) (stanzas_of after) ≡ stanzas_before stanzas (stanzas_of place)
after_more stanzas place after stanza goes_on is =
    ap (λ xs. (xs, (stanzas_of after).1)) (append_assoc stanzas (stanza ∷ []) (stanzas_of after).0) ∙ ap (stanzas_before stanzas) (sym (stanzas_more place (Some (stanza, after)) goes_on is))

pub after_unreadable : (stanzas : List Stanza) (place : Place) → is_finished place ≡ false → stanza_at place ≡ None → (stanzas, Some (line_at place)) ≡ stanzas_before stanzas (stanzas_of place)
after_unreadable stanzas place goes_on is = sym (ap (stanzas_before stanzas) (stanzas_more place None goes_on is) ∙ ap (λ xs. (xs, Some (line_at place))) (append-nil stanzas))

pub after_finished : (stanzas : List Stanza) (place : Place) → is_finished place ≡ true → (stanzas, None) ≡ stanzas_before stanzas (stanzas_of place)
after_finished stanzas place finished = sym (ap (stanzas_before stanzas) (stanzas_finished place finished) ∙ ap (λ xs. (xs, None)) (append-nil stanzas))
