-- How a process may end (init(5), `normal exit`).
use Rattle.std.specs.Prelude.{Bool, ◌==◌, false}
use Rattle.up_stanza.specs.declared.exit.Exit.{Exit}
use Rattle.up_stanza.specs.declared.exit.Exit.TheVariants as exit

abbrev pub same_exit : Exit → Exit → Bool
same_exit (exit.Status status) (exit.Status other) = status == other
same_exit (exit.Signal signal) (exit.Signal other) = signal == other
same_exit status signal = false
