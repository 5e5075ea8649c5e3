use Rattle.std.proofs.Common.{sym, ◌∙◌}
use Rattle.up_text.proofs.Signs.{IsCharBoundary-after_first}
use Rattle.up_text.proofs.expansion.after.Goals as goal

pub range_from-requires : goal.range_from-requires
range_from-requires c = λ _. IsCharBoundary-after_first c.args.text.now c.args.byte c.utf8.text (sym c.begins_with.ensures ∙ c.if-begins_with.true) c.requires
