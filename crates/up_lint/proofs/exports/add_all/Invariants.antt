use Rattle.std.proofs.Common.{◌≡◌, drop}
use Rattle.std.specs.List.{flat_map}
use Rattle.up_lint.specs.Exports.{keys_in}
use Rattle.up_lint.specs.Names.{with_names}
use Rattle.up_lint.proofs.exports.add_all.Given as goal

abbrev pub invariant-loop-word : goal.invariant-loop-word
invariant-loop-word l = with_names l.names (flat_map keys_in (drop l.word-index l.words)) ≡ with_names l.initial.names (flat_map keys_in l.words)
