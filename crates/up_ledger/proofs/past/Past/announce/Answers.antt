use Rattle.std.proofs.Common.{◌∙◌, ◌∷◌, Some, refl, sym}
use Rattle.up_job.specs.declared.change.Change.TheVariants as change
use Rattle.up_model.specs.Chronicle.{Queued, Entering}
use Rattle.up_ledger.proofs.Announcing.{forgets-emitted, forgets-blocked}
use Rattle.up_ledger.proofs.Entering as entry
use Rattle.up_ledger.proofs.Announcing.{pushed-so}
use Rattle.up_ledger.proofs.past.Past.announce.Goals as goal

pub returns-then-is_blocking-clause-after : goal.returns-then-is_blocking-clause-after
returns-then-is_blocking-clause-after c config c' i f found =
    forgets-blocked c.args.self.now _ config c' c.args.key i c.args.state c.args.event c.in_ok-id.id f found (sym c.is_blocking.ensures ∙ c.if-is_blocking.true) c.in_ok-id.ensures.fresh c.in_ok-id.ensures.pushed
    c.change_at.ensures refl refl

pub returns-then-is_blocking-clause-instances : goal.returns-then-is_blocking-clause-instances
returns-then-is_blocking-clause-instances c c' i k found =
    entry.stays c.args.self.now.instances _ c' (Queued (Entering i c.args.state) c.args.event ∷ c') c.args.key k (change.Waits (Some c.in_ok-id.id)) i (λ job. refl) c.change_at.ensures found

pub returns-else-is_blocking-clause-after : goal.returns-else-is_blocking-clause-after
returns-else-is_blocking-clause-after c config c' i f found =
    forgets-emitted c.args.self.now _ config c' i c.args.state c.args.event c.in_ok-id.id f (sym c.is_blocking.ensures ∙ c.if-is_blocking.false) c.in_ok-id.ensures.fresh c.in_ok-id.ensures.pushed refl refl refl

pub returns-then-is_blocking-clause-events : goal.returns-then-is_blocking-clause-events
returns-then-is_blocking-clause-events c config c' i k j f found = pushed-so c.args.self.now config c' _ c.args.event _ _ k j f c.in_ok-id.ensures.fresh c.in_ok-id.ensures.pushed found

pub returns-else-is_blocking-clause-events : goal.returns-else-is_blocking-clause-events
returns-else-is_blocking-clause-events c config c' i k j f found = pushed-so c.args.self.now config c' _ c.args.event _ _ k j f c.in_ok-id.ensures.fresh c.in_ok-id.ensures.pushed found
