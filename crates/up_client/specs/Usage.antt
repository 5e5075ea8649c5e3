-- The command line of the program.
use Rattle.std.specs.Prelude.{Some, codes}
use Rattle.clap.specs.Words.{App, Rule, new_rule, with_rule}
use Rattle.clap.specs.declared.builder.ArgAction.TheVariants.{Set}
use Rattle.up_wire.specs.Usage.{usage}

-- the option `--socket PATH`
abbrev pub socket_rule : Rule
socket_rule = record (new_rule (codes "socket")) {
  long = Some (codes "socket");
  value_names = 1;
  action =
      Some Set;
}

-- the command line of `up_wire`, and the option
abbrev pub client_usage : App
client_usage = with_rule usage socket_rule
