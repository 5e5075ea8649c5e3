use Rattle.std.proofs.Common.{◌≡◌, drop, false}
use Rattle.up_lint.specs.Commands.{names_after}
use Rattle.up_lint.specs.Names.{with_names}
use Rattle.up_lint.proofs.commands.add_words.Given as goal

abbrev pub invariant-loop-word : goal.invariant-loop-word
invariant-loop-word l = with_names l.names (names_after l.verb l.except l.waits (drop l.word-index l.words)) ≡ with_names l.initial.names (names_after l.verb l.except false l.words)
