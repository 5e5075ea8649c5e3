use Rattle.std.proofs.Common.{◌≡◌, ◌++◌, length}
use Rattle.up_text.specs.Places.{start}
use Rattle.up_lint.specs.Heads.{heads_from}
use Rattle.up_lint.proofs.head.push_heads.Given as goal

-- the stanzas so far stand before those that are left
abbrev pub invariant-heads : goal.invariant-heads
invariant-heads l = l.heads.items ++ heads_from l.over l.left l.lexer ≡ l.initial.heads.items ++ heads_from l.over (length l.text) (start l.text)

abbrev pub decreases-heads : goal.decreases-heads
decreases-heads l = l.left
