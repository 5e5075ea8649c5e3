use Rattle.std.proofs.Common.{◌≡◌, ◌∙◌, sym, true, false}
use Rattle.up_marks.proofs.Markings.{marks_fit}
use Rattle.up_marks.proofs.trigger.offer_fitting.Goals as goal

pub returns-else-fits-clause-agrees : goal.returns-else-fits-clause-agrees
returns-else-fits-clause-agrees c = λ event_of sights e agrees event_is named.
    let clash : true ≡ false = sym (marks_fit c.args.marks.now 0 c.args.condition.now agrees.kept agrees.laid) ∙ sym c.fits.ensures ∙ c.if-fits.false in
    absurd (cc)

pub returns-else-fits-clause-kept : goal.returns-else-fits-clause-kept
returns-else-fits-clause-kept c = λ event_of sights e agrees event_is named.
    let clash : true ≡ false = sym (marks_fit c.args.marks.now 0 c.args.condition.now agrees.kept agrees.laid) ∙ sym c.fits.ensures ∙ c.if-fits.false in
    absurd (cc)

pub returns-else-fits-clause-holds : goal.returns-else-fits-clause-holds
returns-else-fits-clause-holds c = λ event_of sights e agrees event_is named.
    let clash : true ≡ false = sym (marks_fit c.args.marks.now 0 c.args.condition.now agrees.kept agrees.laid) ∙ sym c.fits.ensures ∙ c.if-fits.false in
    absurd (cc)
