use Rattle.std.proofs.Common.{length}
use Rattle.up_script.proofs.Splitting.{Texts}
use Rattle.up_script.proofs.script.text_front.Given as goal

-- what was passed is text
abbrev pub invariant-lines : goal.invariant-lines
invariant-lines l = Texts l.script l.rest l.count

abbrev pub decreases-lines : goal.decreases-lines
decreases-lines l = length l.rest
