-- The lines that are printed.
use Rattle.std.specs.Prelude.{ℕ, Bool, true, false, ◌==◌, ◌||◌, not, List, [], ◌∷◌, ◌++◌, if◌then◌else◌, codes}
use Rattle.std.specs.List.{flat_map}
use Rattle.std.specs.Fmt.{decimal}
use Rattle.up_model.specs.declared.event.Event.{Event}
use Rattle.up_model.specs.declared.output.Order.{Order}
use Rattle.up_model.specs.declared.output.Output.{Output}
use Rattle.up_model.specs.declared.output.Output.TheVariants as output
use Rattle.up_model.specs.declared.request.Answer.{Answer}
use Rattle.up_model.specs.declared.step.Step.{Step}
use Rattle.up_model.specs.declared.step.Step.TheVariants as step
use Rattle.up_model.specs.declared.who.Who.{Who}
use Rattle.up_model.specs.Events.{process_name}
use Rattle.up_model.specs.Signals.{signal_text}

-- a byte that stands for itself in quoted text
abbrev pub is_plain : ℕ → Bool
is_plain byte = not (byte == 34 || byte == 92 || byte == 10 || byte == 9)

-- a byte of quoted text
unfoldable pub escaped : ℕ → List ℕ
escaped byte =
    if byte == 34 then codes "\\\""
    else (if byte == 92 then codes "\\\\"
    else (if byte == 10 then codes "\\n"
    else (if byte == 9 then codes "\\t"
    else byte ∷ [])))

-- a text in quotes
unfoldable pub quoted : List ℕ → List ℕ
quoted text = codes "\"" ++ flat_map escaped text ++ codes "\""

-- the name of an instance that isn't empty, after the job's
abbrev pub instance_text : List ℕ → List ℕ
instance_text [] = []
instance_text (byte ∷ bytes) = codes " (" ++ (byte ∷ bytes) ++ codes ")"

-- an instance by its names
unfoldable pub who_text : Who → List ℕ
who_text who = who.job ++ instance_text who.instance

-- a word of a command
unfoldable pub word_text : List ℕ → List ℕ
word_text word = codes " " ++ quoted word

-- a key and its value
unfoldable pub binding_text : List ℕ × List ℕ → List ℕ
binding_text binding = binding.0 ++ codes "=" ++ quoted binding.1

-- a variable of an event
unfoldable pub variable_text : List ℕ × List ℕ → List ℕ
variable_text binding = codes " " ++ binding_text binding

-- the line of a variable of a process
unfoldable pub variable_line : List ℕ × List ℕ → List ℕ
variable_line binding = codes "  " ++ binding_text binding ++ codes "\n"

-- the lines of a start
unfoldable pub spawn_lines : Order → List ℕ
spawn_lines order =
    codes "spawn " ++ who_text order.who ++ codes " " ++ process_name order.process
    ++ flat_map word_text order.argv ++ codes "\n"
    ++ flat_map variable_line order.env

-- the line of a signal
unfoldable pub signal_line : Who → ℕ → ℕ → List ℕ
signal_line who pid signal = codes "signal " ++ who_text who ++ codes " " ++ decimal pid ++ codes " "
    ++ signal_text signal ++ codes "\n"

-- the line of an event
unfoldable pub event_line : Event → List ℕ
event_line event = codes "event " ++ event.name ++ flat_map variable_text event.vars ++ codes "\n"

-- whether a request succeeded
abbrev pub verdict_text : Bool → List ℕ
verdict_text true = codes " ok "
verdict_text false = codes " failed "

-- the line of a reply
unfoldable pub reply_line : ℕ → Answer → List ℕ
reply_line id answer = codes "reply " ++ decimal id ++ verdict_text answer.ok ++ quoted answer.text
    ++ codes "\n"

-- the lines of an output
abbrev pub output_lines : Output → List ℕ
output_lines (output.Spawn order) = spawn_lines order
output_lines (output.Signal who pid signal) = signal_line who pid signal
output_lines (output.Emitted event) = event_line event
output_lines (output.Reply id answer) = reply_line id answer

-- the lines of a step
abbrev pub step_lines : Step → List ℕ
step_lines (step.Gave outputs) = flat_map output_lines outputs
step_lines step.NotExpected = codes "refused 40 NotExpected\n"

-- the line of a bad step of the script with this name
unfoldable pub bad_statement_line : List ℕ → ℕ → List ℕ
bad_statement_line name line = name ++ codes ":" ++ decimal line ++ codes ": bad step\n"
