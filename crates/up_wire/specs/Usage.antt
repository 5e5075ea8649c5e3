-- The command line of `initctl`: a command, and what may come after it (initctl(8)).
use Rattle.std.specs.Prelude.{◌≡◌, true, false, List, [], ◌∷◌, Some, codes, if◌then◌else◌}
use Rattle.clap.specs.Lexer.{usize_max}
use Rattle.clap.specs.Words.{App, Rule, app_of, is_broken, new_app, new_rule, with_rule, with_subcommand}
use Rattle.clap.specs.declared.builder.command.Command.{Command}
use Rattle.clap.specs.declared.builder.command.Command.TheViews.{out-Command}
use Rattle.clap.specs.declared.builder.ArgAction.TheVariants.{Set, Append, SetTrue}
use Rattle.up_model.specs.Requests.{command_name, commands, is_alone, may_wait}
use Rattle.up_model.specs.declared.request.Command.{Command as Asked}
use Rattle.up_model.specs.Values.{Bytes}

-- the name of a job or an event, which has to be there
abbrev pub name_rule : Rule
name_rule = record (new_rule (codes "NAME")) { value_names = 1; required = true; action = Some Set }

-- any number of words KEY=VALUE
abbrev pub words_rule : Rule
words_rule = record (new_rule (codes "VARS")) {
  value_names = 1;
  range = Some (record { start_inclusive = 0; end_inclusive = usize_max });
  action = Some Append;
}

-- the flag `--no-wait`
abbrev pub no_wait_rule : Rule
no_wait_rule = record (new_rule (codes "no-wait")) { long = Some (codes "no-wait"); action = Some SetTrue }

-- a command about a job or an event
abbrev pub about_app : Bytes → App
about_app name = with_rule (with_rule (new_app name) name_rule) words_rule

-- the same, if the client may choose not to wait
abbrev pub waiting_app : Bytes → App
waiting_app name = with_rule (about_app name) no_wait_rule

-- a command with what may come after it
abbrev pub command_app : Asked → App
command_app its =
    if is_alone its then new_app (command_name its)
    else (if may_wait its then waiting_app (command_name its) else about_app (command_name its))

-- a command line with these commands more, in turn
abbrev pub with_commands : App → List Asked → App
with_commands app [] = app
with_commands app (its ∷ more) = with_commands (with_subcommand app (command_app its).top) more

-- the program, which has a version and needs a command
abbrev pub program_app : App
program_app = record (new_app (codes "initctl")) {
  top =
      record (new_app (codes "initctl")).top { has_version = true; subcommand_required = true };
}

-- the whole command line
abbrev pub usage : App
usage = with_commands program_app commands

-- a command of clap that reads words as this says, without global arguments
pub record IsUsage (app : App) (command : Command) : Type 0 where
  pub reads : app_of command ≡ app
  pub local : (out-Command command).has_globals ≡ false
  pub whole : is_broken command ≡ false
