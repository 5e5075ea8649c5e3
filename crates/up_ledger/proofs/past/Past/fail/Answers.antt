use Rattle.std.proofs.Common.{◌∷◌, refl}
use Rattle.up_model.specs.Chronicle.{Failed}
use Rattle.up_model.specs.Queue.{queue}
use Rattle.up_job.specs.declared.change.Change.TheVariants as change
use Rattle.up_ledger.specs.Eventing.{place_of}
use Rattle.up_ledger.proofs.Entering as entry
use Rattle.up_ledger.proofs.Starting.{forgets-change}
use Rattle.up_ledger.proofs.past.Past.fail.Goals as goal

pub returns-clause-after : goal.returns-clause-after
returns-clause-after c config c' i f found =
    let book = c.args.self.now in
    let places = place_of book.events (queue c') in
    forgets-change book _ config c' (Failed i c.args.failure) c.args.key i (change.Fails c.args.failure) f found (entry.is-failed places config c' i c.args.failure f.lives.older) tt (λ k. refl) refl tt (λ p. refl) refl c.change_at.ensures refl refl refl

pub returns-clause-instances : goal.returns-clause-instances
returns-clause-instances c c' i k found =
    entry.stays c.args.self.now.instances _ c' (Failed i c.args.failure ∷ c') c.args.key k (change.Fails c.args.failure) i (λ job. refl) c.change_at.ensures found
