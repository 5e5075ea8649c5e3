use Rattle.std.proofs.Common.{◌≡◌, length, false}
use Rattle.std.specs.List.{slice_split}
use Rattle.up_lint.specs.declared.pieces.Cut.TheVariants as cut
use Rattle.up_lint.specs.Commands.{names_after}
use Rattle.up_lint.specs.Names.{with_names}
use Rattle.up_lint.specs.Pieces.{is_cut}
use Rattle.up_lint.proofs.commands.add_script.Given as goal

abbrev pub invariant-words : goal.invariant-words
invariant-words l = with_names l.names (names_after l.verb l.except l.waits (slice_split (is_cut cut.Words) l.rest)) ≡ with_names l.initial.names (names_after l.verb l.except false (slice_split (is_cut cut.Words) l.text))

abbrev pub decreases-words : goal.decreases-words
decreases-words l = length l.rest
