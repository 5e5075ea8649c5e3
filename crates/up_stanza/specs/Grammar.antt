-- The grammar of a job file (init(5)): which stanzas its text writes.
use Rattle.std.specs.Prelude.{◌≡◌, ◌⊎◌, ℕ, ◌+◌, true, false, List, [], ◌∷◌, length, map, None, Some, codes}
use Rattle.std.specs.List.{concat, list_all}
use Rattle.up_value.specs.Values.{Bytes}
use Rattle.up_text.specs.declared.token.Token.{Token}
use Rattle.up_text.specs.Commands.{command_marks_at, command_in}
use Rattle.up_text.specs.Expansion.{is_expandable}
use Rattle.up_text.specs.Names.{is_key}
use Rattle.up_text.specs.Places.{Place, Got, Ended, start, reading, with_parens, place_after, after_stanza, fault_in, is_finished}
use Rattle.up_text.specs.Statements.{IsStatement}
use Rattle.up_text.specs.Scripts.{is_filled, lines_of, script_in}
use Rattle.up_expr.specs.Syntax.{Writes}
use Rattle.up_expr.specs.Trees.{Tree}
use Rattle.up_stanza.specs.declared.action.Action.{Action}
use Rattle.up_stanza.specs.declared.action.Action.TheVariants.{Shell}
use Rattle.up_stanza.specs.declared.process.Process as processes
use Rattle.up_stanza.specs.declared.process.Process.TheVariants as process
use Rattle.up_stanza.specs.declared.stanza.Stanza.{Stanza}
use Rattle.up_stanza.specs.declared.stanza.Stanza.TheVariants.{About, Emits, Env, Export, Task, Manual, Respawn, RespawnLimit, NormalExit, KillTimeout, KillSignal, ReloadSignal, Instance, Console, Chdir, Runs, StartOn, StopOn}
use Rattle.up_stanza.specs.Actions.{action_of}
use Rattle.up_stanza.specs.Arguments.{limit_of}
use Rattle.up_stanza.specs.Confs.{is_readable, has_few_keys}
use Rattle.up_stanza.specs.Numbers.{number_in}
use Rattle.up_stanza.specs.Settings.{setting_in, exit_in, console_in}
use Rattle.up_stanza.specs.Signals.{signal_in}

-- a token of this text stands at a place
pub record Says (place : Place) (text : Bytes) (after : Place) : Type 0 where
  pub token : Token
  pub read : reading place ≡ Got token after
  pub same : token.text ≡ text

-- a token of this text, and tokens of these up to the stanza's end
pub record IsListed (word : Bytes) (arguments : List Bytes) (place after : Place) : Type 0 where
  pub next : Place
  pub first : Says place word next
  pub tokens : List Token
  pub statement : IsStatement next tokens after
  pub texts : arguments ≡ map (λ token. token.text) tokens

-- `start on` or `stop on`, and the expression that is written up to the stanza's end, where parentheses are tokens
pub record IsOn (word : Bytes) (tree : Tree) (place after : Place) : Type 0 where
  pub next : Place
  pub first : Says place word next
  pub later : Place
  pub second : Says next (codes "on") later
  pub tokens : List Token
  pub end : Place
  pub statement : IsStatement (with_parens true later) tokens end
  pub writes : Writes tokens tree
  pub is_after : after ≡ with_parens false end

-- `exec`, and a command whose text goes up to the stanza's end
pub record IsExec (action : Action) (place after : Place) : Type 0 where
  pub next : Place
  pub first : Says place (codes "exec") next
  pub whole : fault_in (command_marks_at next) ≡ None
  pub says : action_of (command_in (command_marks_at next)) ≡ Some action
  pub ends : reading (place_after (length (command_marks_at next)) next) ≡ Ended after

-- `script` and a line end, then the lines up to the end line
pub record IsScript (action : Action) (place after : Place) : Type 0 where
  pub next : Place
  pub first : Says place (codes "script") next
  pub later : Place
  pub ends : reading next ≡ Ended later
  pub lines : List Bytes
  pub last : Bytes
  pub script : script_in (lines_of later.rest) ≡ Some (lines, last)
  pub says : action ≡ Shell (concat lines)
  pub is_after : after ≡ after_stanza (place_after (length (concat lines) + length last) later)

-- what a process runs
abbrev pub IsAction : Action → Place → Place → Type 0
IsAction action place after = IsExec action place after ⊎ IsScript action place after

-- the main process has no word; what another one runs stands after its word
abbrev pub IsRun : processes.Process → Action → Place → Place → Type 0
IsRun process.Main action place after = IsAction action place after
IsRun process.PreStart action place after =
    (next : Place) × Says place (codes "pre-start") next × IsAction action next after
IsRun process.PostStart action place after =
    (next : Place) × Says place (codes "post-start") next × IsAction action next after
IsRun process.PreStop action place after =
    (next : Place) × Says place (codes "pre-stop") next × IsAction action next after
IsRun process.PostStop action place after =
    (next : Place) × Says place (codes "post-stop") next × IsAction action next after

-- a word that begins a stanza without effect
pub data IsAbout : Bytes → Type 0 where
  IsDescription : IsAbout (codes "description")
  IsAuthor : IsAbout (codes "author")
  IsVersion : IsAbout (codes "version")
  IsUsage : IsAbout (codes "usage")

-- a stanza stands at a place, and this is the place after it
abbrev pub StandsAt : Place → Stanza → Place → Type 0
StandsAt place (About text) after = (word : Bytes) × IsAbout word × IsListed word (text ∷ []) place after
StandsAt place (Emits texts) after = (is_filled texts ≡ true) × IsListed (codes "emits") texts place after
StandsAt place (Env setting) after = (text : Bytes) × (setting_in text ≡ Some setting)
    × IsListed (codes "env") (text ∷ []) place after
StandsAt place (Export keys) after = (is_filled keys ≡ true) × (list_all is_key keys ≡ true)
    × IsListed (codes "export") keys place after
StandsAt place Task after = IsListed (codes "task") [] place after
StandsAt place Manual after = IsListed (codes "manual") [] place after
StandsAt place Respawn after = IsListed (codes "respawn") [] place after
StandsAt place (RespawnLimit limit) after =
    (texts : List Bytes) × (limit_of texts ≡ Some limit)
    × IsListed (codes "respawn") (codes "limit" ∷ texts) place after
StandsAt place (NormalExit exits) after =
    (texts : List Bytes) × (is_filled texts ≡ true) × (map exit_in texts ≡ map Some exits)
    × IsListed (codes "normal") (codes "exit" ∷ texts) place after
StandsAt place (KillTimeout seconds) after =
    (text : Bytes) × (number_in 0 2147483647 text ≡ Some seconds)
    × IsListed (codes "kill") (codes "timeout" ∷ text ∷ []) place after
StandsAt place (KillSignal signal) after =
    (text : Bytes) × (signal_in text ≡ Some signal)
    × IsListed (codes "kill") (codes "signal" ∷ text ∷ []) place after
StandsAt place (ReloadSignal signal) after =
    (text : Bytes) × (signal_in text ≡ Some signal)
    × IsListed (codes "reload") (codes "signal" ∷ text ∷ []) place after
StandsAt place (Instance text) after = (is_expandable text ≡ true)
    × IsListed (codes "instance") (text ∷ []) place after
StandsAt place (Console kind) after = (text : Bytes) × (console_in text ≡ Some kind)
    × IsListed (codes "console") (text ∷ []) place after
StandsAt place (Chdir text) after = IsListed (codes "chdir") (text ∷ []) place after
StandsAt place (Runs process action) after = IsRun process action place after
StandsAt place (StartOn tree) after = IsOn (codes "start") tree place after
StandsAt place (StopOn tree) after = IsOn (codes "stop") tree place after

-- these stanzas, and no more, stand from a place on
abbrev pub Written : Place → List Stanza → Type 0
Written place [] = is_finished place ≡ true
Written place (stanza ∷ stanzas) = (after : Place) × StandsAt place stanza after × Written after stanzas

-- the bytes of a file write these stanzas
pub record Conf (bytes : Bytes) (stanzas : List Stanza) : Type 0 where
  pub text : is_readable bytes ≡ true
  pub written : Written (start bytes) stanzas
  pub few : has_few_keys stanzas ≡ true
