-- No statement of a script without tables gives a load of jobs.
use Rattle.std.proofs.Common.{◌≡◌, ℕ, ◌+◌, ◌-◌, zero, suc, Bool, true, false, List, [], ◌∷◌, ◌++◌, Option, None, Some, option_map, option_and_then, Result, Ok, Err, replicate, bytes_eq, codes, if◌then◌else◌, take, drop, refl, sym, subst}
use Rattle.std.specs.List.{AllByRecursion, prefix_len, concat}
use Rattle.up_text.specs.Comments.{without_comments}
use Rattle.up_text.specs.Lexemes.{Lexeme, stanzas}
use Rattle.up_conf.specs.Numbers.{number_in}
use Rattle.up_conf.specs.declared.job.JobDef.{JobDef}
use Rattle.up_stanza.specs.declared.process.Process.{Process}
use Rattle.up_model.specs.declared.input.Input.{Input}
use Rattle.up_model.specs.declared.input.Input.TheVariants as input
use Rattle.up_model.specs.declared.loaded.Loaded.TheVariants as loaded
use Rattle.up_model.specs.declared.process.How.{How}
use Rattle.up_model.specs.declared.request.Request.{Request}
use Rattle.up_model.specs.declared.who.Who.{Who}
use Rattle.up_model.specs.Requests.{command_named}
use Rattle.up_script.specs.Bundle.{lines_of}
use Rattle.up_script.specs.Requests.{request_of, request_by}
use Rattle.up_script.specs.Script.{who_named, process_of, how_of, emit_of, spawned_of, refused_of, ended_of, clock_of, loaded_of, load_of, input_of, turns_of, inputs_of, left_by_load, left_after, loads_jobs}
use Rattle.up_script.specs.Statements.{is_text, texts_in, step_inputs, begins_on, step_then, inputs_from, unless_left, lines_inputs, script_inputs}
use Rattle.up_script.specs.Variables.{vars_of, name_in}

abbrev pub IsLoadless : Input → Type 0
IsLoadless given = loads_jobs given ≡ false

-- what is read of a line or of several, if anything is, has none
abbrev One : Option Input → Type 0
One None = Unit {0}
One (Some given) = IsLoadless given

abbrev Many : Option (List Input) → Type 0
Many None = Unit {0}
Many (Some inputs) = AllByRecursion IsLoadless inputs

abbrev All : Result (List Input) ℕ → Type 0
All (Ok inputs) = AllByRecursion IsLoadless inputs
All (Err line) = Unit {0}

one-then : {X : Type 0} (f : X → Option Input) → ((x : X) → One (f x)) → (o : Option X) → One (option_and_then f o)
one-then f all None = tt
one-then f all (Some x) = all x

one-map : {X : Type 0} (f : X → Input) → ((x : X) → IsLoadless (f x)) → (o : Option X) → One (option_map f o)
one-map f all None = tt
one-map f all (Some x) = all x

one-if : (b : Bool) (o other : Option Input) → One o → One other → One (if b then o else other)
one-if true o other first second = first
one-if false o other first second = second

emit : (words : List (List ℕ)) → One (emit_of words)
emit [] = tt
emit (name ∷ words) =
    one-then (λ (event : List ℕ). option_map (λ vars. input.Emit (record { name = event; vars = vars })) (vars_of [] words))
    (λ event. one-map (λ vars. input.Emit (record { name = event; vars = vars })) (λ vars. refl) (vars_of [] words)) (name_in name)

request : (words : List (List ℕ)) → One (request_of words)
request [] = tt
request (id ∷ []) = tt
request (id ∷ name ∷ words) =
    let asked : Option Request = option_and_then (request_by words) (command_named name) in
    one-then (λ (number : ℕ). option_map (input.Request number) asked) (λ number. one-map (input.Request number) (λ asked. refl) asked) (number_in 0 18446744073709551615 id)

spawned : (words : List (List ℕ)) → One (spawned_of words)
spawned [] = tt
spawned (a ∷ []) = tt
spawned (a ∷ b ∷ []) = tt
spawned (a ∷ b ∷ c ∷ []) = tt
spawned (job ∷ instance ∷ name ∷ pid ∷ []) =
    let read : Option ℕ = number_in 0 4294967295 pid in
    one-then (λ (who : Who). option_and_then (λ its. option_map (input.Spawned who its) read) (process_of name))
    (λ who. one-then (λ (its : Process). option_map (input.Spawned who its) read) (λ its. one-map (input.Spawned who its) (λ number. refl) read) (process_of name)) (who_named job instance)
spawned (a ∷ b ∷ c ∷ d ∷ e ∷ words) = tt

refused : (words : List (List ℕ)) → One (refused_of words)
refused [] = tt
refused (a ∷ []) = tt
refused (a ∷ b ∷ []) = tt
refused (job ∷ instance ∷ name ∷ []) =
    one-then (λ (who : Who). option_map (input.Refused who) (process_of name)) (λ who. one-map (input.Refused who) (λ its. refl) (process_of name)) (who_named job instance)
refused (a ∷ b ∷ c ∷ d ∷ words) = tt

ended : (words : List (List ℕ)) → One (ended_of words)
ended [] = tt
ended (a ∷ []) = tt
ended (a ∷ b ∷ []) = tt
ended (a ∷ b ∷ c ∷ []) = tt
ended (a ∷ b ∷ c ∷ d ∷ []) = tt
ended (job ∷ instance ∷ name ∷ kind ∷ text ∷ []) =
    let end : Option How = how_of kind text in
    one-then (λ (who : Who). option_and_then (λ its. option_map (input.Ended who its) end) (process_of name))
    (λ who. one-then (λ (its : Process). option_map (input.Ended who its) end) (λ its. one-map (input.Ended who its) (λ how. refl) end) (process_of name)) (who_named job instance)
ended (a ∷ b ∷ c ∷ d ∷ e ∷ f ∷ words) = tt

loaded-so : (id : ℕ) (words : List (List ℕ)) → One (option_map (input.Load id) (loaded_of [] words))
loaded-so id [] = tt
loaded-so id (word ∷ []) = by_word (bytes_eq word (codes "unread"))
  where
    by_word : (b : Bool) → One (option_map (input.Load id) (if b then Some loaded.Unread else None))
    by_word true = refl
    by_word false = tt
loaded-so id (word ∷ code ∷ []) = by_word (bytes_eq word (codes "refused")) (number_in 0 255 code)
  where
    by_word : (b : Bool) (o : Option ℕ) → One (option_map (input.Load id) (if b then option_map loaded.Refused o else None))
    by_word true None = tt
    by_word true (Some number) = refl
    by_word false o = tt
loaded-so id (a ∷ b ∷ c ∷ words) = tt

load : (words : List (List ℕ)) → One (load_of [] words)
load [] = tt
load (id ∷ words) = one-then (λ (number : ℕ). option_map (input.Load number) (loaded_of [] words))
    (λ number. loaded-so number words) (number_in 0 18446744073709551615 id)

clock : (words : List (List ℕ)) → One (clock_of words)
clock [] = tt
clock (reading ∷ []) = one-map input.Clock (λ now. refl) (number_in 0 18446744073709551615 reading)
clock (a ∷ b ∷ words) = tt

one : (kind : List ℕ) (words : List (List ℕ)) → One (input_of [] kind words)
one kind words =
    let seventh : Option Input = if bytes_eq kind (codes "load") then load_of [] words else None in
    let sixth : Option Input = if bytes_eq kind (codes "clock") then clock_of words else seventh in
    let fifth : Option Input = if bytes_eq kind (codes "ended") then ended_of words else sixth in
    let fourth : Option Input = if bytes_eq kind (codes "refused") then refused_of words else fifth in
    let third : Option Input = if bytes_eq kind (codes "spawned") then spawned_of words else fourth in
    let second : Option Input = if bytes_eq kind (codes "request") then request_of words else third in
    one-if (bytes_eq kind (codes "emit")) (emit_of words) second (emit words)
    (one-if (bytes_eq kind (codes "request")) (request_of words) third (request words)
    (one-if (bytes_eq kind (codes "spawned")) (spawned_of words) fourth (spawned words)
    (one-if (bytes_eq kind (codes "refused")) (refused_of words) fifth (refused words)
    (one-if (bytes_eq kind (codes "ended")) (ended_of words) sixth (ended words)
    (one-if (bytes_eq kind (codes "clock")) (clock_of words) seventh (clock words)
    (one-if (bytes_eq kind (codes "load")) (load_of [] words) None (load words) tt))))))

turns-many : (n : ℕ) → AllByRecursion IsLoadless (replicate n input.Turn)
turns-many zero = tt
turns-many (suc n) = (refl, turns-many n)

turns : (words : List (List ℕ)) → Many (turns_of words)
turns [] = (refl, tt)
turns (count ∷ []) = by_count (number_in 1 1000000 count)
  where
    by_count : (o : Option ℕ) → Many (option_map (λ n. replicate n input.Turn) o)
    by_count None = tt
    by_count (Some n) = turns-many n
turns (a ∷ b ∷ words) = tt

words-of : (words : List (List ℕ)) → Many (inputs_of [] words)
words-of [] = tt
words-of (kind ∷ words) = by_kind (bytes_eq kind (codes "turn"))
  where
    by_one : (o : Option Input) → One o → Many (option_map (λ given. given ∷ []) o)
    by_one None is = tt
    by_one (Some given) is = (is, tt)

    by_kind : (b : Bool) → Many (if b then turns_of words else option_map (λ given. given ∷ []) (input_of [] kind words))
    by_kind true = turns words
    by_kind false = by_one (input_of [] kind words) (one kind words)

step : (lexemes : List Lexeme) → Many (step_inputs [] lexemes)
step lexemes = by_texts (texts_in lexemes)
  where
    by_texts : (o : Option (List (List ℕ))) → Many (option_and_then (inputs_of []) o)
    by_texts None = tt
    by_texts (Some words) = words-of words

both-all : (xs ys : List Input) → AllByRecursion IsLoadless xs → AllByRecursion IsLoadless ys → AllByRecursion IsLoadless (xs ++ ys)
both-all [] ys first second = second
both-all (x ∷ xs) ys first second = (first.0, both-all xs ys first.1 second)

then-all : (line : ℕ) (o : Option (List Input)) (others : Result (List Input) ℕ) → Many o → All others → All (step_then line o others)
then-all line None others is rest = tt
then-all line (Some inputs) (Ok others) is rest = both-all inputs others is rest
then-all line (Some inputs) (Err bad) is rest = tt

-- no table is left of none
none-left : (words : Option (List (List ℕ))) → left_after [] words ≡ []
none-left None = refl
none-left (Some []) = refl
none-left (Some (kind ∷ words)) = by_kind (bytes_eq kind (codes "load"))
  where
    none : List (List JobDef)
    none = []

    by_load : (words : List (List ℕ)) → left_by_load none words ≡ []
    by_load [] = refl
    by_load (id ∷ []) = refl
    by_load (id ∷ word ∷ words) = refl

    by_kind : (b : Bool) → (if b then left_by_load none words else none) ≡ []
    by_kind true = by_load words
    by_kind false = refl

from : (line : ℕ) (steps : List (List Lexeme)) → All (inputs_from [] line steps)
from line [] = tt
from line (its ∷ steps) =
    then-all (line + (begins_on its - 1)) (step_inputs [] its) (inputs_from (left_after [] (texts_in its)) line steps) (step its)
    (subst (λ tables. All (inputs_from tables line steps)) (sym (none-left (texts_in its))) (from line steps))

left : (line : ℕ) (lines : List (List ℕ)) (read : Result (List Input) ℕ) → All read → All (unless_left line lines read)
left line [] read all = all
left line (other ∷ lines) (Ok inputs) all = tt
left line (other ∷ lines) (Err earlier) all = tt

pub script-loadless : (line : ℕ) (script : List ℕ) (inputs : List Input) → Ok inputs ≡ script_inputs [] line script → AllByRecursion IsLoadless inputs
unfolding script_inputs lines_inputs
script-loadless line script inputs is =
    let lines = lines_of (without_comments script) in
    let texts = prefix_len is_text lines in
    let steps = stanzas (concat (take texts lines)) in
    subst All (sym is) (left (line + texts) (drop texts lines) (inputs_from [] line steps) (from line steps))
