-- What the answers of a lexer say of what is read.
use Rattle.std.proofs.Common.{◌≡◌, inl, inr, ℕ, List, [], ◌∷◌, ◌++◌, length, map, Option, None, Some, Ok, Err, refl, ap, append_assoc, append-nil}
use Rattle.up_value.specs.declared.fault.TextFault.{TextFault}
use Rattle.up_value.specs.declared.fault.TextFault.TheVariants.{Memory}
use Rattle.up_text.specs.declared.token.Token.{Token}
use Rattle.up_text.specs.Commands.{command_marks_at, command_in, CommandUnless, ReadsCommand}
use Rattle.up_text.specs.Places.{Answers, Place, Reading, Got, Ended, Fails, reading, place_after, fault_in}
use Rattle.up_text.specs.Statements.{with_token, statement_of}
use Rattle.up_text.proofs.Statements.{statement_of-is}
use Rattle.up_stanza.specs.Reading.{LacksMemory, put_before}
use Rattle.up_stanza.specs.Stanzas.{Found, map_found, texts_at}

-- a token more of a row
pub tokens_more : (tokens : List Token) (place next : Place) (token : Token) → reading place ≡ Got token next → put_before (tokens ++ token ∷ []) (statement_of next) ≡ put_before tokens (statement_of place)
tokens_more tokens place next token got = rw (statement_of-is place, got) (by_statement (statement_of next))
  where
    by_statement : (statement : Found (List Token)) → put_before (tokens ++ token ∷ []) statement ≡ put_before tokens (with_token token statement)
    by_statement None = refl
    by_statement (Some statement) = ap (λ ts. Some (ts, statement.1)) (append_assoc tokens (token ∷ []) statement.0)

-- the end of one
pub tokens_end : (tokens : List Token) (place next : Place) → reading place ≡ Ended next → put_before tokens (statement_of place) ≡ Some (tokens, next)
tokens_end tokens place next ended = rw (statement_of-is place, ended) (ap (λ ts. Some (ts, next)) (append-nil tokens))

pub statement_refused : (place : Place) (fault : TextFault) → reading place ≡ Fails fault → statement_of place ≡ None
statement_refused place fault fails = rw (statement_of-is place, fails) refl

-- a text more
pub texts_more : (texts : List (List ℕ)) (place next : Place) (token : Token) → reading place ≡ Got token next → put_before (texts ++ token.text ∷ []) (texts_at next) ≡ put_before texts (texts_at place)
texts_more texts place next token got = rw (statement_of-is place, got) (by_statement (statement_of next))
  where
    by_statement : (statement : Found (List Token)) → put_before (texts ++ token.text ∷ []) (map_found (λ ts. map (λ t. t.text) ts) statement) ≡ put_before texts (map_found (λ ts. map (λ t. t.text) ts) (with_token token statement))
    by_statement None = refl
    by_statement (Some statement) = ap (λ ts. Some (ts, statement.1)) (append_assoc texts (token.text ∷ []) (map (λ t. t.text) statement.0))

pub texts_end : (texts : List (List ℕ)) (place next : Place) → reading place ≡ Ended next → put_before texts (texts_at place) ≡ Some (texts, next)
texts_end texts place next ended = rw (statement_of-is place, ended) (ap (λ ts. Some (ts, next)) (append-nil texts))

pub texts_refused : (place : Place) (fault : TextFault) → reading place ≡ Fails fault → texts_at place ≡ None
texts_refused place fault fails = rw (statement_refused place fault fails) refl

-- the text of a command

pub text_read : (old new : Place) (text : List ℕ) → ReadsCommand old (Ok text) new → (fault_in (command_marks_at old) ≡ None) × (text ≡ command_in (command_marks_at old)) × (new ≡ place_after (length (command_marks_at old)) old)
text_read old new text reads = by_fault (fault_in (command_marks_at old)) reads
  where
    by_fault : (fault : Option TextFault) → CommandUnless old fault (Ok text) new → (fault ≡ None) × (text ≡ command_in (command_marks_at old)) × (new ≡ place_after (length (command_marks_at old)) old)
    by_fault None (inl is) = (refl, cc, is.1)
    by_fault None (inr is) = absurd (cc)
    by_fault (Some fault) is = absurd (cc)

pub text_refused : (old new : Place) (fault : TextFault) → (fault ≡ Memory → ⊥) → ReadsCommand old (Err fault) new → (why : TextFault) × (fault_in (command_marks_at old) ≡ Some why)
text_refused old new fault other reads = by_fault (fault_in (command_marks_at old)) reads
  where
    by_fault : (why : Option TextFault) → CommandUnless old why (Err fault) new → (found : TextFault) × (why ≡ Some found)
    by_fault None (inl is) = absurd (cc)
    by_fault None (inr is) = let memory : fault ≡ Memory = cc in absurd (other memory)
    by_fault (Some why) is = (why, refl)

-- out of memory only where a token stands
pub lacks_by : (old new : Place) → Answers old (reading old) (Err Memory) new → LacksMemory (reading old)
lacks_by old new answers = by_reading (reading old) answers
  where
    by_reading : (r : Reading) → Answers old r (Err Memory) new → LacksMemory r
    by_reading (Got token after) is = tt
    by_reading (Ended after) is = absurd (cc)
    by_reading (Fails why) is = cc

-- and only if the text of a command isn't refused
pub text_lacks : (old new : Place) → ReadsCommand old (Err Memory) new → (fault : TextFault) → fault_in (command_marks_at old) ≡ Some fault → fault ≡ Memory
text_lacks old new reads fault is = by_fault (fault_in (command_marks_at old)) is reads
  where
    by_fault : (why : Option TextFault) → why ≡ Some fault → CommandUnless old why (Err Memory) new → fault ≡ Memory
    by_fault None same reads = absurd (cc)
    by_fault (Some why) same reads = cc
