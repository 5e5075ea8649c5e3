use Rattle.std.proofs.Common.{◌≡◌, ◌++◌, take}
use Rattle.std.specs.Process.{command_program, command_args}
use Rattle.up_edge.proofs.command.add_words.Given as goal

abbrev pub invariant-loop-word : goal.invariant-loop-word
invariant-loop-word l = record {
  words : command_args l.command ≡ command_args l.fn.command ++ take l.word-index l.words;
  program : command_program l.command ≡ command_program l.fn.command;
}
