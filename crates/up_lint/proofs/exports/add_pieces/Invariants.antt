use Rattle.std.proofs.Common.{◌≡◌, length}
use Rattle.up_lint.specs.Exports.{keys_in}
use Rattle.up_lint.specs.Names.{with_names}
use Rattle.up_lint.proofs.exports.add_pieces.Given as goal

abbrev pub invariant-pieces : goal.invariant-pieces
invariant-pieces l = with_names l.names (keys_in l.rest) ≡ with_names l.initial.names (keys_in l.text)

abbrev pub decreases-pieces : goal.decreases-pieces
decreases-pieces l = length l.rest
