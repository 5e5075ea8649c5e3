use Rattle.std.proofs.Common.{◌≡◌, drop}
use Rattle.up_marks.specs.Finding.{first_wanting}
use Rattle.up_marks.specs.Ruling.{admits}
use Rattle.up_marks.proofs.finder.first_wanting.Given as goal

-- the rest decides
abbrev pub invariant-loop-leaf : goal.invariant-loop-leaf
invariant-loop-leaf l = first_wanting (admits l.jobs l.event) l.event.name l.value (drop l.leaf-index l.leaves) ≡ first_wanting (admits l.jobs l.event) l.event.name l.value l.leaves
