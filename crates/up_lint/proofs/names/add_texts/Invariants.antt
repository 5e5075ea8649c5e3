use Rattle.std.proofs.Common.{◌≡◌, drop}
use Rattle.up_lint.specs.Names.{with_names}
use Rattle.up_lint.proofs.names.add_texts.Given as goal

abbrev pub invariant-loop-text : goal.invariant-loop-text
invariant-loop-text l = with_names l.names (drop l.text-index l.texts) ≡ with_names l.initial.names l.texts
