-- The steps of a script, one after another.
use Rattle.std.proofs.Common.{◌≡◌, inl, inr, ℕ, ◌+◌, ◌-◌, ◌<◌, ◌≤◌, true, false, List, [], ◌∷◌, ◌++◌, length, take, drop, Option, None, Some, option_map, option_and_then, Result, Ok, Err, refl, sym, ap, ◌∙◌, subst, arith, length-drop, length-take, append_assoc, append-nil}
use Rattle.up_value.specs.declared.fault.TextFault.{TextFault}
use Rattle.up_text.specs.declared.token.Token.{Token}
use Rattle.up_text.specs.Lexemes.{Lexeme, Word, Bad, End, IsLineOf, put_front, split_ends, lexemes_of}
use Rattle.up_text.specs.Places.{Place, Reading, Got, Ended, Fails, Answers, place_after, reading, read_at, spelling_read, line_at, is_finished, fault_in, is_spelled, gap_at, marks_at}
use Rattle.up_text.specs.Tokens.{Mark, Part, Quoting, Folded, Alone, Blank, Passed, Stop, Fail}
use Rattle.std.proofs.lemmas.Bool.{true≢false}
use Rattle.std.specs.List.{take_while}
use Rattle.up_text.proofs.Lexemes.{line_lexemes, none_when_finished, finished_when_none}
use Rattle.up_text.proofs.Runs.{feeds-length}
use Rattle.up_conf.specs.declared.job.JobDef.{JobDef}
use Rattle.up_model.specs.declared.input.Input.{Input}
use Rattle.up_script.specs.Script.{inputs_of, left_after}
use Rattle.up_script.specs.Statements.{begins_on, after_step, inputs_from, step_then, step_inputs, with_inputs, texts_in, ReachesNoFurther}

-- the line of the next token is one of the text that is left
pub line_within : (place : Place) → line_at place ≤ place.line + length place.rest
line_within place = omega (arith, feeds-length (take (gap_at place) place.rest), length-take (gap_at place) place.rest)

further : (n : ℕ) (place : Place) → ReachesNoFurther (place_after n place) place
further n place = omega (arith, feeds-length (take n place.rest), length-take n place.rest, length-drop n place.rest)

-- what is read leaves no further line
abbrev NoFurther : Reading → Place → Type 0
NoFurther (Got token after) place = ReachesNoFurther after place
NoFurther (Ended after) place = ReachesNoFurther after place
NoFurther (Fails fault) place = Unit {0}

spelled_further : (place : Place) (spelling : List Mark) (found : Option TextFault) → NoFurther (spelling_read place spelling found) place
spelled_further place spelling None = further (length spelling) place
spelled_further place spelling (Some fault) = tt

read_further : (place : Place) (ms : List Mark) → NoFurther (read_at place ms) place
read_further place [] = omega arith
read_further place (Stop ∷ ms) = further 1 place
read_further place (Alone byte ∷ ms) = further 1 place
read_further place (Part byte ∷ ms) = spelled_further place (take_while is_spelled (Part byte ∷ ms)) (fault_in (take_while is_spelled (Part byte ∷ ms)))
read_further place (Quoting byte ∷ ms) = spelled_further place (take_while is_spelled (Quoting byte ∷ ms)) (fault_in (take_while is_spelled (Quoting byte ∷ ms)))
read_further place (Folded ∷ ms) = spelled_further place (take_while is_spelled (Folded ∷ ms)) (fault_in (take_while is_spelled (Folded ∷ ms)))
read_further place (Fail fault ∷ ms) = tt
read_further place (Blank byte ∷ ms) = omega arith
read_further place (Passed ∷ ms) = omega arith

after_further : (n : ℕ) (place : Place) (read : Reading) → NoFurther read (place_after n place) → NoFurther read place
after_further n place (Got token after) less = omega (arith, less, further n place)
after_further n place (Ended after) less = omega (arith, less, further n place)
after_further n place (Fails fault) less = tt

reading_further : (place : Place) → NoFurther (reading place) place
unfolding reading
reading_further place = after_further (gap_at place) place _ (read_further (place_after (gap_at place) place) (drop (gap_at place) (marks_at place)))

-- a call that reads leaves no further line
pub reads_no_further : (old : Place) (result : Result (Option Token) TextFault) (new : Place) → Answers old (reading old) result new → ReachesNoFurther new old
reads_no_further old result new answers = by_reading (reading old) (reading_further old) answers
  where
    same : (place : Place) → new ≡ place → ReachesNoFurther place old → ReachesNoFurther new old
    same place is less = subst (λ p. ReachesNoFurther p old) (sym is) less

    by_reading : (read : Reading) → NoFurther read old → Answers old read result new → ReachesNoFurther new old
    by_reading (Got token after) less (inl is) = same after is.1 less
    by_reading (Got token after) less (inr is) = same old is.1 (omega arith)
    by_reading (Ended after) less is = same after is.1 less
    by_reading (Fails fault) less is = same old is.1 (omega arith)

-- the first step of lexemes
abbrev first_step : List Lexeme → List Lexeme
first_step [] = []
first_step (Word token ∷ later) = Word token ∷ first_step later
first_step (Bad line fault ∷ later) = Bad line fault ∷ first_step later
first_step (End ∷ later) = []

-- lexemes are their first step and those after it
split_first : (lexeme : Lexeme) (later : List Lexeme) → split_ends (lexeme ∷ later) ≡ first_step (lexeme ∷ later) ∷ split_ends (after_step (lexeme ∷ later))
split_first End later = refl
split_first (Word token) [] = refl
split_first (Word token) (lexeme ∷ later) = ap (put_front (Word token)) (split_first lexeme later)
split_first (Bad line fault) [] = refl
split_first (Bad line fault) (lexeme ∷ later) = ap (put_front (Bad line fault)) (split_first lexeme later)

first_words : (lexemes : List Lexeme) → texts_in (first_step lexemes) ≡ texts_in lexemes
first_words [] = refl
first_words (Word token ∷ later) = ap (option_map (λ words. token.text ∷ words)) (first_words later)
first_words (Bad line fault ∷ later) = refl
first_words (End ∷ later) = refl

-- a bad step begins with a token, which is read next
first_line : (tables : List (List JobDef)) (lexemes : List Lexeme) (line : ℕ) → step_inputs tables lexemes ≡ None → IsLineOf lexemes line → begins_on (first_step lexemes) ≡ line
first_line tables [] line bad is = absurd (cc)
first_line tables (Word token ∷ later) line bad is = sym is
first_line tables (Bad first fault ∷ later) line bad is = sym is
first_line tables (End ∷ later) line bad is = absurd (cc)

with_more : (inputs more : List Input) (others : Result (List Input) ℕ) → with_inputs inputs (with_inputs more others) ≡ with_inputs (inputs ++ more) others
with_more inputs more (Ok others) = ap Ok (sym (append_assoc inputs more others))
with_more inputs more (Err line) = refl

steps_first : (tables : List (List JobDef)) (line : ℕ) (lexeme : Lexeme) (later : List Lexeme) → inputs_from tables line (split_ends (lexeme ∷ later))
    ≡ step_then (line + (begins_on (first_step (lexeme ∷ later)) - 1)) (step_inputs tables (lexeme ∷ later))
    (inputs_from (left_after tables (texts_in (lexeme ∷ later))) line (split_ends (after_step (lexeme ∷ later))))
steps_first tables line lexeme later =
    ap (inputs_from tables line) (split_first lexeme later)
    ∙ ap (λ words. step_then (line + (begins_on (first_step (lexeme ∷ later)) - 1)) (option_and_then (inputs_of tables) words) (inputs_from (left_after tables words) line (split_ends (after_step (lexeme ∷ later))))) (first_words (lexeme ∷ later))

-- the inputs of one step more
more_steps : (tables : List (List JobDef)) (line : ℕ) (inputs more : List Input) (left : List Lexeme) → (left ≡ [] → ⊥) → step_inputs tables left ≡ Some more
    → with_inputs (inputs ++ more) (inputs_from (left_after tables (texts_in left)) line (split_ends (after_step left))) ≡ with_inputs inputs (inputs_from tables line (split_ends left))
more_steps tables line inputs more [] some is = absurd (some refl)
more_steps tables line inputs more (lexeme ∷ later) some is =
    let rest = inputs_from (left_after tables (texts_in (lexeme ∷ later))) line (split_ends (after_step (lexeme ∷ later))) in
    sym (with_more inputs more rest)
    ∙ ap (λ found. with_inputs inputs (step_then (line + (begins_on (first_step (lexeme ∷ later)) - 1)) found rest)) (sym is)
    ∙ ap (with_inputs inputs) (sym (steps_first tables line lexeme later))

-- a bad step
bad_steps : (tables : List (List JobDef)) (line : ℕ) (inputs : List Input) (left : List Lexeme) (at : ℕ) → step_inputs tables left ≡ None → IsLineOf left at
    → with_inputs inputs (inputs_from tables line (split_ends left)) ≡ Err (line + (at - 1))
bad_steps tables line inputs [] at bad is = absurd (cc)
bad_steps tables line inputs (lexeme ∷ later) at bad is =
    let rest = inputs_from (left_after tables (texts_in (lexeme ∷ later))) line (split_ends (after_step (lexeme ∷ later))) in
    ap (with_inputs inputs) (steps_first tables line lexeme later)
    ∙ ap (λ found. with_inputs inputs (step_then (line + (begins_on (first_step (lexeme ∷ later)) - 1)) found rest)) bad
    ∙ ap (λ n. Err (line + (n - 1))) (first_line tables (lexeme ∷ later) at bad is)

pub one_step : (tables after : List (List JobDef)) (line : ℕ) (inputs more : List Input) (place : Place) (next : List Lexeme) → is_finished place ≡ false
    → step_inputs tables (lexemes_of place) ≡ Some more → after ≡ left_after tables (texts_in (lexemes_of place)) → next ≡ after_step (lexemes_of place)
    → with_inputs (inputs ++ more) (inputs_from after line (split_ends next)) ≡ with_inputs inputs (inputs_from tables line (split_ends (lexemes_of place)))
one_step tables after line inputs more place next goes is left ends =
    ap (λ lexemes. with_inputs (inputs ++ more) (inputs_from after line (split_ends lexemes))) ends
    ∙ ap (λ those. with_inputs (inputs ++ more) (inputs_from those line (split_ends (after_step (lexemes_of place))))) left
    ∙ more_steps tables line inputs more (lexemes_of place) (λ none. true≢false (sym (finished_when_none place none) ∙ goes)) is

pub bad_step : (tables : List (List JobDef)) (line : ℕ) (inputs : List Input) (place : Place) → step_inputs tables (lexemes_of place) ≡ None
    → with_inputs inputs (inputs_from tables line (split_ends (lexemes_of place))) ≡ Err (line + (line_at place - 1))
bad_step tables line inputs place bad = bad_steps tables line inputs (lexemes_of place) (line_at place) bad (line_lexemes place)

pub no_step : (tables : List (List JobDef)) (line : ℕ) (inputs : List Input) (place : Place) → is_finished place ≡ true
    → with_inputs inputs (inputs_from tables line (split_ends (lexemes_of place))) ≡ Ok inputs
no_step tables line inputs place finished =
    ap (λ left. with_inputs inputs (inputs_from tables line (split_ends left))) (none_when_finished place finished) ∙ ap Ok (append-nil inputs)

after_less : (lexeme : Lexeme) (later : List Lexeme) → length (after_step (lexeme ∷ later)) < length (lexeme ∷ later)
after_less End later = omega arith
after_less (Word token) [] = omega arith
after_less (Word token) (lexeme ∷ later) = let less = after_less lexeme later in omega (arith, less)
after_less (Bad line fault) [] = omega arith
after_less (Bad line fault) (lexeme ∷ later) = let less = after_less lexeme later in omega (arith, less)

some_less : (left : List Lexeme) → (left ≡ [] → ⊥) → length (after_step left) < length left
some_less [] some = absurd (some refl)
some_less (lexeme ∷ later) some = after_less lexeme later

pub step_less : (place : Place) (next : List Lexeme) → is_finished place ≡ false → next ≡ after_step (lexemes_of place) → length next < length (lexemes_of place)
step_less place next goes after =
    subst (λ left. length left < length (lexemes_of place)) (sym after) (some_less (lexemes_of place) (λ none. true≢false (sym (finished_when_none place none) ∙ goes)))
