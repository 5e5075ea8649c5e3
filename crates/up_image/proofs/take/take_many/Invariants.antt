use Rattle.std.proofs.Common.{◌≡◌, ◌-◌, []}
use Rattle.up_image.specs.Finding.{items_at, text_at}
use Rattle.up_image.proofs.take.take_many.Given as goal

-- what is left gives the whole
abbrev pub invariant-loop-i : goal.invariant-loop-i
invariant-loop-i l = items_at text_at (l.count - l.i) l.texts.items l.rest ≡ items_at text_at l.count [] l.fn.bytes
