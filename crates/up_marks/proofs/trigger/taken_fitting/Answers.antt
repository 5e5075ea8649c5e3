use Rattle.std.proofs.Common.{◌≡◌, ◌∙◌, sym, true, false}
use Rattle.up_marks.proofs.Markings.{marks_fit}
use Rattle.up_marks.proofs.trigger.taken_fitting.Goals as goal

pub returns-else-fits : goal.returns-else-fits
returns-else-fits c = λ event_of sights agrees.
    let clash : true ≡ false = sym (marks_fit c.args.marks.now 0 c.args.condition.now agrees.kept agrees.laid) ∙ sym c.fits.ensures ∙ c.if-fits.false in
    absurd (cc)
