-- The script that says inputs, a statement a line.
use Rattle.std.specs.Prelude.{◌≢◌, ◌⊎◌, ℕ, ◌+◌, ◌<◌, Bool, true, false, ◌==◌, ◌||◌, List, [], ◌∷◌, ◌++◌, length, Ok, if◌then◌else◌, codes}
use Rattle.std.specs.List.{flat_map}
use Rattle.std.specs.Fmt.{decimal}
use Rattle.up_stanza.specs.declared.process.Process.{Process}
use Rattle.up_model.specs.declared.input.Input.{Input}
use Rattle.up_model.specs.declared.input.Input.TheVariants as input
use Rattle.up_model.specs.declared.loaded.Loaded.{Loaded}
use Rattle.up_model.specs.declared.loaded.Loaded.TheVariants as loaded
use Rattle.up_model.specs.declared.process.How.{How}
use Rattle.up_model.specs.declared.process.How.TheVariants as how
use Rattle.up_model.specs.declared.request.Request.{Request}
use Rattle.up_model.specs.declared.who.Who.{Who}
use Rattle.up_model.specs.Events.{process_name}
use Rattle.up_model.specs.Requests.{command_name}
use Rattle.up_model.specs.Signals.{signal_text}
use Rattle.up_script.specs.Statements.{script_inputs}

-- a byte between quotes: a backslash stands before a quote and before a backslash
unfoldable pub token_byte : ℕ → List ℕ
token_byte byte = if byte == 34 || byte == 92 then 92 ∷ byte ∷ [] else byte ∷ []

-- a text as a token in quotes
unfoldable pub token : List ℕ → List ℕ
token text = codes "\"" ++ flat_map token_byte text ++ codes "\""

-- a variable, KEY="VALUE"
unfoldable pub variable_token : List ℕ × List ℕ → List ℕ
variable_token binding = codes " " ++ binding.0 ++ codes "=" ++ token binding.1

-- whether the client waits for the answer
abbrev pub wait_token : Bool → List ℕ
wait_token true = []
wait_token false = codes " --no-wait"

-- what a request names, if anything
abbrev pub name_token : List ℕ → List ℕ
name_token [] = []
name_token (byte ∷ bytes) = codes " " ++ (byte ∷ bytes)

-- ID COMMAND [--no-wait] [NAME] [KEY="VALUE"]..
unfoldable pub request_tokens : ℕ → Request → List ℕ
request_tokens id request = decimal id ++ codes " " ++ command_name request.command ++ wait_token request.wait
    ++ name_token request.name ++ flat_map variable_token request.vars

-- JOB "INSTANCE" PROCESS
unfoldable pub process_tokens : Who → Process → List ℕ
process_tokens who its = who.job ++ codes " " ++ token who.instance ++ codes " " ++ process_name its

-- how a process ended
abbrev pub end_tokens : How → List ℕ
end_tokens (how.Exit code) = codes " exit " ++ decimal code
end_tokens (how.Signal signal) = codes " signal " ++ signal_text signal

-- what a load loads, if not the jobs of the next folder
abbrev pub loaded_tokens : Loaded → List ℕ
loaded_tokens (loaded.Files jobs) = []
loaded_tokens (loaded.Refused code) = codes " refused " ++ decimal code
loaded_tokens loaded.Unread = codes " unread"

-- the statement of an input
abbrev pub statement : Input → List ℕ
statement (input.Emit event) = codes "emit " ++ event.name ++ flat_map variable_token event.vars
statement (input.Request id request) = codes "request " ++ request_tokens id request
statement (input.Spawned who its pid) = codes "spawned " ++ process_tokens who its ++ codes " " ++ decimal pid
statement (input.Refused who its) = codes "refused " ++ process_tokens who its
statement (input.Ended who its end) = codes "ended " ++ process_tokens who its ++ end_tokens end
statement (input.Clock now) = codes "clock " ++ decimal now
statement input.Turn = codes "turn"
statement (input.Load id its) = codes "load " ++ decimal id ++ loaded_tokens its

abbrev pub is_turn : Input → Bool
is_turn (input.Emit event) = false
is_turn (input.Request id request) = false
is_turn (input.Spawned who its pid) = false
is_turn (input.Refused who its) = false
is_turn (input.Ended who its end) = false
is_turn (input.Clock now) = false
is_turn input.Turn = true
is_turn (input.Load id its) = false

-- turns that follow one another stand in one line
unfoldable pub turns_line : ℕ → List ℕ
turns_line count =
    if count == 0 then []
    else (if count == 1 then codes "turn\n"
    else codes "turn " ++ decimal count ++ codes "\n")

-- the lines of so many turns, and of the inputs after them
unfoldable pub script_after : ℕ → List Input → List ℕ
script_after turns [] = turns_line turns
script_after turns (given ∷ inputs) =
    if is_turn given then script_after (turns + 1) inputs
    else turns_line turns ++ statement given ++ codes "\n" ++ script_after 0 inputs

-- the lines of inputs
abbrev pub script_of : List Input → List ℕ
script_of inputs = script_after 0 inputs

-- a script can't say these inputs: their lines are too long, or are read as others, since one has a value with a line feed, say
abbrev pub IsUnsaid : List Input → Type 0
IsUnsaid inputs = (67108864 < length (script_of inputs)) ⊎ (script_inputs [] 1 (script_of inputs) ≢ Ok inputs)
