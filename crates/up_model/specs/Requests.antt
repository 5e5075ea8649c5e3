use Rattle.std.specs.Prelude.{ℕ, Bool, true, false, ◌&&◌, ◌||◌, List, [], ◌∷◌, ◌++◌, Option, find, codes, if◌then◌else◌}
use Rattle.std.specs.Str.{bytes_eq}
use Rattle.up_text.specs.Names.{is_name}
use Rattle.up_model.specs.declared.request.Command.{Command}
use Rattle.up_model.specs.declared.request.Command.TheVariants as command

-- a command as a client writes it (initctl(8))
abbrev pub command_name : Command → List ℕ
command_name command.Start = codes "start"
command_name command.Stop = codes "stop"
command_name command.Restart = codes "restart"
command_name command.Status = codes "status"
command_name command.List = codes "list"
command_name command.Emit = codes "emit"
command_name command.Reload = codes "reload"
command_name command.ReloadConfiguration = codes "reload-configuration"
command_name command.Version = codes "version"

-- the commands, in the order in which help lists them
abbrev pub commands : List Command
commands =
    command.Start ∷ command.Stop ∷ command.Restart ∷ command.Status ∷ command.Reload ∷ command.Emit
    ∷ command.List
    ∷ command.ReloadConfiguration ∷ command.Version ∷ []

-- the command of a name
abbrev pub command_named : List ℕ → Option Command
command_named name = find (λ its. bytes_eq name (command_name its)) commands

-- whether a client may choose not to wait for the answer (initctl(8), `--no-wait`)
abbrev pub may_wait : Command → Bool
may_wait command.Start = true
may_wait command.Stop = true
may_wait command.Restart = true
may_wait command.Emit = true
may_wait other = false

-- whether the command stands alone, without a name and variables
abbrev pub is_alone : Command → Bool
is_alone command.List = true
is_alone command.ReloadConfiguration = true
is_alone command.Version = true
is_alone other = false

-- what is told of a command that nothing carries out
abbrev pub not_supported : Command → List ℕ
not_supported command = codes "Not supported: " ++ command_name command

-- what a request says, without where it lies in memory
pub record RequestValue : Type 0 where
  pub command : Command
  pub wait : Bool
  pub name : List ℕ
  pub vars : List (List ℕ × List ℕ)

-- whether there are neither bytes nor variables
abbrev pub are_none : List ℕ → List (List ℕ × List ℕ) → Bool
are_none [] [] = true
are_none name vars = false

-- a command that stands alone has an empty name and no variables, and any other names a job or an event; only some may not wait
abbrev pub is_request : Command → Bool → List ℕ → List (List ℕ × List ℕ) → Bool
is_request command wait name vars = (wait || may_wait command)
    && (if is_alone command then are_none name vars else is_name name)
