use Rattle.std.specs.Prelude.{ℕ, Bool, true, false, ◌&&◌, List, [], ◌∷◌, Option, None, Some, option_map, option_and_then, if◌then◌else◌, codes}
use Rattle.std.specs.Str.{bytes_eq}
use Rattle.up_model.specs.declared.input.Input.{Input}
use Rattle.up_model.specs.declared.input.Input.TheVariants as input
use Rattle.up_model.specs.declared.request.Command.{Command}
use Rattle.up_model.specs.declared.request.Request.{Request}
use Rattle.up_model.specs.Requests.{command_named, may_wait, is_alone}
use Rattle.up_conf.specs.Numbers.{number_in}
use Rattle.up_script.specs.Variables.{vars_of, name_in}

-- whether the words begin with `--no-wait`
abbrev pub begins_no_wait : List (List ℕ) → Bool
begins_no_wait [] = false
begins_no_wait (word ∷ words) = bytes_eq word (codes "--no-wait")

-- the words after the first
abbrev pub after_first_step : List (List ℕ) → List (List ℕ)
after_first_step [] = []
after_first_step (word ∷ words) = words

-- a request by its command and its parts
abbrev pub make : Command → Bool → List ℕ → List (List ℕ × List ℕ) → Request
make asked wait name vars = record { command = asked; wait = wait; name = name; vars = vars }

-- a command that stands alone
abbrev pub alone : Command → Bool → List (List ℕ) → Option Request
alone asked wait [] = Some (make asked wait [] [])
alone asked wait (word ∷ words) = None

-- a command with its NAME [KEY=VALUE]..
abbrev pub with_name : Command → Bool → List (List ℕ) → Option Request
with_name asked wait [] = None
with_name asked wait (word ∷ words) = option_and_then
    (λ name. option_map (make asked wait name) (vars_of [] words)) (name_in word)

-- a command with what it takes
abbrev pub with_words : Command → Bool → List (List ℕ) → Option Request
with_words asked wait words = if is_alone asked then alone asked wait words else with_name asked wait words

-- a command with the words after it
abbrev pub request_by : List (List ℕ) → Command → Option Request
request_by words asked =
    if may_wait asked && begins_no_wait words then with_words asked false
    (after_first_step words) else with_words asked true words

-- ID COMMAND [--no-wait] [NAME] [KEY=VALUE]..
abbrev pub request_of : List (List ℕ) → Option Input
request_of [] = None
request_of (id ∷ []) = None
request_of (id ∷ name ∷ words) =
    option_and_then (λ number. option_map (input.Request number)
    (option_and_then (request_by words) (command_named name))) (number_in 0 18446744073709551615 id)
