-- The tokens of a stanza are what the next reading gives, and those after it.
use Rattle.std.proofs.Common.{◌≡◌, inl, inr, Ok, Err, ℕ, zero, suc, ◌<◌, ◌≤◌, false, List, [], ◌∷◌, length, Option, None, Some, refl, sym, ap, ◌∙◌, subst, arith}
use Rattle.up_value.specs.declared.fault.TextFault.{TextFault}
use Rattle.up_value.specs.declared.fault.TextFault.TheVariants.{Memory}
use Rattle.up_text.specs.declared.token.Token.{Token}
use Rattle.up_text.specs.Lexemes.{readings_left}
use Rattle.up_text.specs.Places.{Place, Reading, Got, Ended, Fails, Answers, reading}
use Rattle.up_text.specs.Statements.{IsStatement, with_token, statement_by, statement_from, statement_of}
use Rattle.up_text.proofs.Lexemes.{reading_less, reading_ends, left_got, one_at_least}

-- more readings than enough give no more
enough : (n k : ℕ) (place : Place) → readings_left place ≤ n → readings_left place ≤ k → statement_from n place ≡ statement_from k place
unfolding statement_from
enough zero k place few many = absurd (let one = one_at_least place.inside in omega (arith, few, one))
enough (suc n) zero place few many = absurd (let one = one_at_least place.inside in omega (arith, many, one))
enough (suc n) (suc k) place few many = by_reading (reading place) refl (λ after less. enough n k after (omega (arith, less, few)) (omega (arith, less, many)))
  where
    by_reading : (r : Reading) → reading place ≡ r → ((other : Place) → readings_left other < readings_left place → statement_from n other ≡ statement_from k other)
        → statement_by (λ after. statement_from n after) r ≡ statement_by (λ after. statement_from k after) r
    by_reading (Got token after) is more = ap (with_token token) (more after (left_got place token after is))
    by_reading (Ended after) is more = refl
    by_reading (Fails fault) is more = refl

one_more : (n : ℕ) (place : Place) → statement_from (suc n) place ≡ statement_by (λ after. statement_from n after) (reading place)
unfolding statement_from
one_more n place = refl

pub statement_of-is : (place : Place) → statement_of place ≡ statement_by (λ after. statement_of after) (reading place)
unfolding statement_of
statement_of-is place =
    enough (readings_left place) (suc (readings_left place)) place (omega arith) (omega arith) ∙ one_more (readings_left place) place ∙ by_reading (reading place) refl
  where
    by_reading : (r : Reading) → reading place ≡ r → statement_by (λ after. statement_from (readings_left place) after) r ≡ statement_by (λ after. statement_from (readings_left after) after) r
    by_reading (Got token after) is = ap (with_token token) (let less = left_got place token after is in enough (readings_left place) (readings_left after) after (omega (arith, less)) (omega arith))
    by_reading (Ended after) is = refl
    by_reading (Fails fault) is = refl

-- a row of tokens is the one that is read
pub statement_of-IsStatement : (place : Place) (tokens : List Token) (after : Place) → IsStatement place tokens after → statement_of place ≡ Some (tokens, after)
statement_of-IsStatement place [] after statement = statement_of-is place ∙ ap (statement_by (λ place. statement_of place)) statement
statement_of-IsStatement place (token ∷ tokens) after statement =
    statement_of-is place ∙ ap (statement_by (λ place. statement_of place)) statement.1 ∙ ap (with_token token) (statement_of-IsStatement statement.0 tokens after statement.2)

-- and what is read is a row
from_statement : (n : ℕ) (place : Place) (tokens : List Token) (after : Place) → statement_from n place ≡ Some (tokens, after) → IsStatement place tokens after
unfolding statement_from
from_statement zero place tokens after is = cc
from_statement (suc n) place tokens after is = by_reading (reading place) refl is (λ next tokens is. from_statement n next tokens after is)
  where
    by_later : (token : Token) (next : Place) (later : Option (List Token × Place)) → statement_from n next ≡ later → reading place ≡ Got token next → with_token token later ≡ Some (tokens, after)
        → ((next : Place) (others : List Token) → statement_from n next ≡ Some (others, after) → IsStatement next others after) → IsStatement place tokens after
    by_later token next None is got whole more = cc
    by_later token next (Some statement) is got whole more =
        let pair : (token ∷ statement.0, statement.1) ≡ (tokens, after) = cc in
        let tokens_are = ap (λ (p : List Token × Place). p.0) pair in
        let after_is = ap (λ (p : List Token × Place). p.1) pair in
        subst (λ ts. IsStatement place ts after) tokens_are (next, got, more next statement.0 (is ∙ ap (λ b. Some (statement.0, b)) after_is))

    by_reading : (r : Reading) → reading place ≡ r → statement_by (λ next. statement_from n next) r ≡ Some (tokens, after)
        → ((next : Place) (others : List Token) → statement_from n next ≡ Some (others, after) → IsStatement next others after) → IsStatement place tokens after
    by_reading (Got token next) got whole more = by_later token next (statement_from n next) refl got whole more
    by_reading (Ended end) got whole more =
        let pair : ([], end) ≡ (tokens, after) = cc in
        let none = ap (λ (p : List Token × Place). p.0) pair in
        let same = ap (λ (p : List Token × Place). p.1) pair in
        subst (λ ts. IsStatement place ts after) none (got ∙ ap Ended same)
    by_reading (Fails fault) got whole more = cc

pub IsStatement-statement_of : (place : Place) (tokens : List Token) (after : Place) → statement_of place ≡ Some (tokens, after) → IsStatement place tokens after
unfolding statement_of
IsStatement-statement_of place tokens after is = from_statement (readings_left place) place tokens after is

-- a row leaves no more text, and ends outside a stanza
pub IsStatement-leaves : (place : Place) (tokens : List Token) (after : Place) → IsStatement place tokens after → (after.inside ≡ false) × (length after.rest ≤ length place.rest)
IsStatement-leaves place [] after statement = reading_ends place after statement
IsStatement-leaves place (token ∷ tokens) after statement =
    let later = IsStatement-leaves statement.0 tokens after statement.2 in
    (later.0, omega (arith, later.1, reading_less place token statement.0 statement.1))

-- what an answer of a lexer says of the reading
pub got_by : (old new : Place) (token : Token) → Answers old (reading old) (Ok (Some token)) new → reading old ≡ Got token new
got_by old new token answers = by_reading (reading old) answers
  where
    by_reading : (r : Reading) → Answers old r (Ok (Some token)) new → r ≡ Got token new
    by_reading (Got other after) (inl is) =
        let same : token ≡ other = cc in
        ap (λ t. Got t after) (sym same) ∙ ap (Got token) (sym is.1)
    by_reading (Got other after) (inr is) = absurd (cc)
    by_reading (Ended after) is = absurd (cc)
    by_reading (Fails fault) is = absurd (cc)

pub ended_by : (old new : Place) → Answers old (reading old) (Ok None) new → reading old ≡ Ended new
ended_by old new answers = by_reading (reading old) answers
  where
    by_reading : (r : Reading) → Answers old r (Ok None) new → r ≡ Ended new
    by_reading (Got other after) (inl is) = absurd (cc)
    by_reading (Got other after) (inr is) = absurd (cc)
    by_reading (Ended after) is = ap Ended (sym is.1)
    by_reading (Fails fault) is = absurd (cc)

pub fails_by : (old new : Place) (fault : TextFault) → (fault ≡ Memory → ⊥) → Answers old (reading old) (Err fault) new → reading old ≡ Fails fault
fails_by old new fault other answers = by_reading (reading old) answers
  where
    by_reading : (r : Reading) → Answers old r (Err fault) new → r ≡ Fails fault
    by_reading (Got token after) (inl is) = absurd (cc)
    by_reading (Got token after) (inr is) = let memory : fault ≡ Memory = cc in absurd (other memory)
    by_reading (Ended after) is = absurd (cc)
    by_reading (Fails why) is = let same : fault ≡ why = cc in ap Fails (sym same)
