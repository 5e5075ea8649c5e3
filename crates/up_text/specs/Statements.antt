-- The tokens of a stanza, and where they end.
use Rattle.std.specs.Prelude.{◌≡◌, ℕ, zero, suc, List, [], ◌∷◌, Option, None, Some}
use Rattle.up_text.specs.declared.token.Token.{Token}
use Rattle.up_text.specs.Places.{Place, Reading, Got, Ended, Fails, reading}
use Rattle.up_text.specs.Lexemes.{readings_left}

-- these tokens stand at a place up to the stanza's end, and this is the place after it
abbrev pub IsStatement : Place → List Token → Place → Type 0
IsStatement place [] after = reading place ≡ Ended after
IsStatement place (token ∷ tokens) after =
    (next : Place) × (reading place ≡ Got token next) × IsStatement next tokens after

-- a token before others
abbrev pub with_token : Token → Option (List Token × Place) → Option (List Token × Place)
with_token token None = None
with_token token (Some statement) = Some (token ∷ statement.0, statement.1)

-- one reading, and then the others
abbrev pub statement_by : (Place → Option (List Token × Place)) → Reading → Option (List Token × Place)
statement_by more (Got token after) = with_token token (more after)
statement_by more (Ended after) = Some ([], after)
statement_by more (Fails fault) = None

-- so many readings
unfoldable pub statement_from : ℕ → Place → Option (List Token × Place)
statement_from zero place = None
statement_from (suc n) place = statement_by (λ after. statement_from n after) (reading place)

-- the tokens up to the stanza's end, and the place after it; nothing if one is refused
unfoldable pub statement_of : Place → Option (List Token × Place)
statement_of place = statement_from (readings_left place) place
