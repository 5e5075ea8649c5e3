-- Commands that are added to the command line one after another.
use Rattle.std.proofs.Common.{◌≡◌, ◌<◌, ◌+◌, ℕ, List, ◌∷◌, length, get_or, drop, add-one, drop-cons, sym, ap, ◌∙◌, Result}
use Rattle.std.specs.Prelude.{IfOk}
use Rattle.clap.specs.Words.{App, with_subcommand}
use Rattle.clap.specs.declared.builder.command.Command.{Command}
use Rattle.up_model.specs.declared.request.Command.{Command as Asked}
use Rattle.up_wire.specs.Usage.{command_app, with_commands, usage, IsUsage}

-- a command line that is whole once these commands are added
pub record Awaits (rest : List Asked) (line : Command) : Type 0 where
  pub app : App
  pub reads : IsUsage app line
  pub whole : with_commands app rest ≡ usage

-- a line that awaits a command, with that command
pub awaits_next : {E : Type 0} (commands : List Asked) (i : ℕ) (d : Asked) (line next : Command) (made : Result Command E) → i < length commands → Awaits (drop i commands) line
    → ((app its : App) → IsUsage app line → IfOk made (IsUsage its) → IsUsage (with_subcommand app its.top) next)
    → IfOk made (IsUsage (command_app (get_or commands i d)))
    → Awaits (drop (i + 1) commands) next
awaits_next commands i d line next made within so_far added its =
    let one : drop i commands ≡ get_or commands i d ∷ drop (i + 1) commands = rw add-one (drop-cons commands i d within) in
    record {
      app = with_subcommand so_far.app (command_app (get_or commands i d)).top;
      reads = added so_far.app (command_app (get_or commands i d)) so_far.reads its;
      whole = sym (ap (with_commands so_far.app) one) ∙ so_far.whole;
    }
