-- The statements of a script, each of which gives inputs.
use Rattle.std.specs.Prelude.{◌≡◌, ℕ, ◌+◌, ◌-◌, ◌≤◌, Bool, true, false, ◌==◌, ◌&&◌, not, List, [], ◌∷◌, ◌++◌, length, take, drop, Option, None, Some, option_map, option_and_then, Result, Ok, Err}
use Rattle.std.specs.List.{list_any, prefix_len, concat}
use Rattle.std.specs.Str.{is_utf8}
use Rattle.up_text.specs.Comments.{without_comments}
use Rattle.up_text.specs.Lexemes.{Lexeme, Word, Bad, End, stanzas}
use Rattle.up_text.specs.Places.{Place}
use Rattle.up_conf.specs.declared.job.JobDef.{JobDef}
use Rattle.up_model.specs.declared.input.Input.{Input}
use Rattle.up_script.specs.declared.script.Next.{Next}
use Rattle.up_script.specs.declared.script.Next.TheVariants as next
use Rattle.up_script.specs.Bundle.{lines_of}
use Rattle.up_script.specs.Script.{inputs_of, left_after}

-- bytes that may stand in a script: UTF-8 without the byte 0
unfoldable pub is_text : List ℕ → Bool
is_text bytes = not (list_any (λ byte. byte == 0) bytes) && is_utf8 bytes

-- the texts of the tokens up to a step's end, where each is whole
abbrev pub texts_in : List Lexeme → Option (List (List ℕ))
texts_in [] = Some []
texts_in (Word token ∷ lexemes) = option_map (λ words. token.text ∷ words) (texts_in lexemes)
texts_in (Bad line fault ∷ lexemes) = None
texts_in (End ∷ lexemes) = Some []

-- the inputs of a step, if its words give some, where these tables are left for loads
abbrev pub step_inputs : List (List JobDef) → List Lexeme → Option (List Input)
step_inputs tables step = option_and_then (inputs_of tables) (texts_in step)

-- the line on which a step begins: that of its first token; each step has one
abbrev pub begins_on : List Lexeme → ℕ
begins_on [] = 0
begins_on (Word token ∷ lexemes) = token.line
begins_on (Bad line fault ∷ lexemes) = line
begins_on (End ∷ lexemes) = 0

-- inputs before others, if any
abbrev pub with_inputs : List Input → Result (List Input) ℕ → Result (List Input) ℕ
with_inputs inputs (Ok others) = Ok (inputs ++ others)
with_inputs inputs (Err line) = Err line

-- the inputs of a step and those of the steps after it; or its line, if it is bad
abbrev pub step_then : ℕ → Option (List Input) → Result (List Input) ℕ → Result (List Input) ℕ
step_then line None others = Err line
step_then line (Some inputs) others = with_inputs inputs others

-- the inputs of the steps of a text whose first line has this number, or the line on which the first bad step begins; each load takes the
-- first of the tables that those before it left
abbrev pub inputs_from : List (List JobDef) → ℕ → List (List Lexeme) → Result (List Input) ℕ
inputs_from tables line [] = Ok []
inputs_from tables line (step ∷ steps) = step_then (line + (begins_on step - 1)) (step_inputs tables step)
    (inputs_from (left_after tables (texts_in step)) line steps)

-- what is read if no lines are left; otherwise the first of these has this number, and is bad unless a step before it is
abbrev pub unless_left : ℕ → List (List ℕ) → Result (List Input) ℕ → Result (List Input) ℕ
unless_left line [] read = read
unless_left line (other ∷ lines) (Ok inputs) = Err line
unless_left line (other ∷ lines) (Err earlier) = Err earlier

-- the inputs of the lines up to the first that is no text, or the number of the first bad line, if the first has this number
unfoldable pub lines_inputs : List (List JobDef) → ℕ → List (List ℕ) → Result (List Input) ℕ
lines_inputs tables line lines =
    let texts = prefix_len is_text lines in
    unless_left (line + texts) (drop texts lines) (inputs_from tables line (stanzas (concat (take texts lines))))

-- the inputs of a script whose first line has this number, or the number of its first bad line: without its comments, its lines up to
-- the first that is no text are read. Its loads take these tables, one after another, and one for which none is left is bad
unfoldable pub script_inputs : List (List JobDef) → ℕ → List ℕ → Result (List Input) ℕ
script_inputs tables line script = lines_inputs tables line (lines_of (without_comments script))

-- whether lines begin with one that is text
abbrev pub begins_text : List (List ℕ) → Bool
begins_text [] = false
begins_text (line ∷ lines) = is_text line

-- a script is these bytes, which are its lines up to the first that is no text, so many, and those that are left after them
pub record Fronts (script front rest : List ℕ) (count : ℕ) : Type 0 where
  pub counted : count ≡ prefix_len is_text (lines_of script)
  pub lines : front ≡ concat (take count (lines_of script))
  pub after : lines_of rest ≡ drop count (lines_of script)
  pub text : is_utf8 front ≡ true
  pub front_within : length front ≤ length script
  pub count_within : count ≤ length script

-- what a lexer that has these lexemes left gives next, and what it has left then
abbrev pub IsNext : List Lexeme → List Lexeme → Next → Type 0
IsNext [] new step = (step ≡ next.End) × (new ≡ [])
IsNext (Word token ∷ later) new step = (step ≡ next.Word token.text) × (new ≡ later)
IsNext (Bad line fault ∷ later) new step = step ≡ next.Bad
IsNext (End ∷ later) new step = (step ≡ next.End) × (new ≡ later)

-- what stands after a step
abbrev pub after_step : List Lexeme → List Lexeme
after_step [] = []
after_step (Word token ∷ later) = after_step later
after_step (Bad line fault ∷ later) = after_step later
after_step (End ∷ later) = later

-- a place that no further line than the other can be reached from
abbrev pub ReachesNoFurther : Place → Place → Type 0
ReachesNoFurther new old = new.line + length new.rest ≤ old.line + length old.rest
