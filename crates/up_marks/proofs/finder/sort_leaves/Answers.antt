use Rattle.std.proofs.Common.{rules}
use Rattle.up_marks.proofs.Ordered.{ordered-from_sort}
use Rattle.up_marks.proofs.finder.sort_leaves.Goals as goal

pub returns-clause-ordered : goal.returns-clause-ordered
returns-clause-ordered c = ordered-from_sort _ _ _ (λ h a r h' called. search rules) c.sort_unstable_by.ensures.sorted
