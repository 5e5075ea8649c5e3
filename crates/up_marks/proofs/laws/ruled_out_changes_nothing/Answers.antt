use Rattle.up_marks.proofs.Ruled.{holds-unheard, kept-unheard, taken-unheard}
use Rattle.up_marks.proofs.laws.ruled_out_changes_nothing.Goals as goal

pub returns : goal.returns
returns c = λ config condition x other e h out.
    (holds-unheard config condition x other e h out, kept-unheard config condition x other e h out, taken-unheard config condition x other e h out)
