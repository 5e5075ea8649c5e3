-- What the stanzas of a job file say (init(5)).
use Rattle.std.specs.Prelude.{ℕ, zero, suc, ◌+◌, true, false, if◌then◌else◌, List, [], ◌∷◌, length, map, Option, None, Some, option_map, codes}
use Rattle.std.specs.List.{concat}
use Rattle.std.specs.Str.{bytes_eq}
use Rattle.up_value.specs.declared.fault.TextFault.{TextFault}
use Rattle.up_value.specs.Values.{Bytes}
use Rattle.up_text.specs.declared.token.Token.{Token}
use Rattle.up_text.specs.Commands.{command_marks_at, command_in}
use Rattle.up_text.specs.Places.{Place, Reading, Got, Ended, Fails, reading, with_parens, place_after, after_stanza, fault_in, line_at, is_finished}
use Rattle.up_text.specs.Statements.{statement_of}
use Rattle.up_text.specs.Scripts.{lines_of, script_in}
use Rattle.up_expr.specs.Parsing.{begin, outcome, has_few_operators}
use Rattle.up_expr.specs.Trees.{Tree}
use Rattle.up_stanza.specs.declared.action.Action.{Action}
use Rattle.up_stanza.specs.declared.action.Action.TheVariants.{Shell}
use Rattle.up_stanza.specs.declared.kind.Kind.{Kind}
use Rattle.up_stanza.specs.declared.kind.Kind.TheVariants as kind
use Rattle.up_stanza.specs.declared.process.Process.TheVariants as process
use Rattle.up_stanza.specs.declared.stanza.Stanza.{Stanza}
use Rattle.up_stanza.specs.declared.stanza.Stanza.TheVariants.{Runs, StartOn, StopOn}
use Rattle.up_stanza.specs.Actions.{action_of}
use Rattle.up_stanza.specs.Arguments.{listed_of}
use Rattle.up_stanza.specs.Kinds.{kind_of}

-- a part of a stanza that is read, and the place after it
abbrev pub Found : Type 0 → Type 0
Found X = Option (X × Place)

-- what is made of a part
abbrev pub map_found : {X Y : Type 0} → (X → Y) → Found X → Found Y
map_found f None = None
map_found f (Some found) = Some (f found.0, found.1)

-- what is made of a part, where something is
abbrev pub and_then_found : {X Y : Type 0} → (X → Option Y) → Found X → Found Y
and_then_found f None = None
and_then_found f (Some found) = option_map (λ y. (y, found.1)) (f found.0)

-- no parenthesis is a token any more after a part
abbrev pub without_parens : {X : Type 0} → Found X → Found X
without_parens None = None
without_parens (Some found) = Some (found.0, with_parens false found.1)

-- the expression that tokens write
abbrev pub expression_in : List Token → Option Tree
expression_in tokens = if has_few_operators tokens then outcome tokens begin else None

-- the expression after the token `on`, where parentheses are tokens
abbrev pub expression_by : Reading → Found Tree
expression_by (Got token after) =
    if bytes_eq token.text (codes "on")
    then without_parens (and_then_found expression_in (statement_of (with_parens true after))) else None
expression_by (Ended after) = None
expression_by (Fails fault) = None

-- the texts of the tokens up to the stanza's end
abbrev pub texts_at : Place → Found (List Bytes)
texts_at place = map_found (λ tokens. map (λ token. token.text) tokens) (statement_of place)

-- a part with the end of its stanza after it
abbrev pub with_end : {X : Type 0} → Option X → Reading → Found X
with_end None read = None
with_end (Some x) (Ended after) = Some (x, after)
with_end (Some x) (Got token after) = None
with_end (Some x) (Fails fault) = None

-- the command whose text goes up to the stanza's end, if the text is whole
abbrev pub command_by : Place → Option TextFault → Found Action
command_by place None =
    with_end (action_of (command_in (command_marks_at place)))
    (reading (place_after (length (command_marks_at place)) place))
command_by place (Some fault) = None

abbrev pub command_at : Place → Found Action
command_at place = command_by place (fault_in (command_marks_at place))

-- the script of these lines, and the place after its end line
abbrev pub script_of : Place → Option (List Bytes × Bytes) → Found Action
script_of place None = None
script_of place (Some script) =
    Some (
      Shell (concat script.0),
      after_stanza
          (place_after (length (concat script.0) + length script.1) place),
    )

-- the script that begins after the end of a line
abbrev pub script_by : Reading → Found Action
script_by (Ended after) = script_of after (script_in (lines_of after.rest))
script_by (Got token after) = None
script_by (Fails fault) = None

abbrev pub script_at : Place → Found Action
script_at place = script_by (reading place)

-- what a process runs: `exec` or `script`
abbrev pub action_by : Reading → Found Action
action_by (Got token after) =
    if bytes_eq token.text (codes "exec") then command_at after
    else (if bytes_eq token.text (codes "script") then script_at after
    else None)
action_by (Ended after) = None
action_by (Fails fault) = None

abbrev pub action_at : Place → Found Action
action_at place = action_by (reading place)

-- what a stanza of this kind says with what stands after its first token
abbrev pub stanza_as : Kind → Place → Found Stanza
stanza_as (kind.Listed kind) place = and_then_found (listed_of kind) (texts_at place)
stanza_as kind.Exec place = map_found (Runs process.Main) (command_at place)
stanza_as kind.Script place = map_found (Runs process.Main) (script_at place)
stanza_as kind.PreStart place = map_found (Runs process.PreStart) (action_at place)
stanza_as kind.PostStart place = map_found (Runs process.PostStart) (action_at place)
stanza_as kind.PreStop place = map_found (Runs process.PreStop) (action_at place)
stanza_as kind.PostStop place = map_found (Runs process.PostStop) (action_at place)
stanza_as kind.Start place = map_found StartOn (expression_by (reading place))
stanza_as kind.Stop place = map_found StopOn (expression_by (reading place))

-- what a first token says with what stands after it, where it begins a stanza
abbrev pub stanza_of : Option Kind → Place → Found Stanza
stanza_of None place = None
stanza_of (Some kind) place = stanza_as kind place

-- what a stanza says that begins so
abbrev pub stanza_by : Reading → Found Stanza
stanza_by (Got token after) = stanza_of (kind_of token.text) after
stanza_by (Ended after) = None
stanza_by (Fails fault) = None

-- what the stanza at a place says, and the place after it; nothing if it is unreadable
abbrev pub stanza_at : Place → Found Stanza
stanza_at place = stanza_by (reading place)

-- stanzas that are read, and the line on which an unreadable one begins
abbrev pub Readable : Type 0
Readable = List Stanza × Option ℕ

-- a stanza, and then the others
abbrev pub stanza_then : (Place → Readable) → ℕ → Found Stanza → Readable
stanza_then more line None = ([], Some line)
stanza_then more line (Some found) = let others = more found.1 in (found.0 ∷ others.0, others.1)

-- so many stanzas
unfoldable pub stanzas_from : ℕ → Place → Readable
stanzas_from zero place = ([], None)
stanzas_from (suc n) place = if is_finished place then ([], None)
    else stanza_then (λ after. stanzas_from n after) (line_at place) (stanza_at place)

-- the stanzas from a place on, up to the first unreadable one: each has a byte at least
unfoldable pub stanzas_of : Place → Readable
stanzas_of place = stanzas_from (length place.rest + 1) place
