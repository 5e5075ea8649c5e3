use Rattle.std.proofs.Common.{◌≡◌, ◌++◌, take}
use Rattle.up_lint.proofs.world.push_texts.Given as goal

abbrev pub invariant-loop-other : goal.invariant-loop-other
invariant-loop-other l = l.texts.items ≡ l.initial.texts.items ++ take l.other-index l.others
