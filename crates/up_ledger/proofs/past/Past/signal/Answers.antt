use Rattle.std.proofs.Common.{◌∷◌, Some, false, refl}
use Rattle.up_model.specs.Chronicle.{Signalled}
use Rattle.up_model.specs.Queue.{queue}
use Rattle.up_job.specs.declared.change.Change.TheVariants as change
use Rattle.up_ledger.specs.Eventing.{place_of}
use Rattle.up_ledger.proofs.Entering as entry
use Rattle.up_ledger.proofs.Starting.{forgets-change}
use Rattle.up_ledger.proofs.past.Past.signal.Goals as goal

pub returns-clause-after : goal.returns-clause-after
returns-clause-after c config c' i f found =
    let book = c.args.self.now in
    let places = place_of book.events (queue c') in
    forgets-change book _ config c' (Signalled i c.args.signal false) c.args.key i (change.Signals (Some book.reading)) f found (entry.is-signalled-at places config c' i c.args.signal book.reading f.reading f.lives.older) tt (λ k. refl) refl tt (λ p. refl) refl c.change_at.ensures refl refl refl

pub returns-clause-instances : goal.returns-clause-instances
returns-clause-instances c c' i k found =
    entry.stays c.args.self.now.instances _ c' (Signalled i c.args.signal false ∷ c') c.args.key k (change.Signals (Some c.args.self.now.reading)) i (λ job. refl) c.change_at.ensures found
