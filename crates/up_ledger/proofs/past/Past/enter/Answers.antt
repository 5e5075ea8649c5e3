use Rattle.std.proofs.Common.{◌∷◌, refl}
use Rattle.up_job.specs.Changes.{is_starting}
use Rattle.up_model.specs.Chronicle.{Entered}
use Rattle.up_model.specs.Queue.{queue}
use Rattle.up_job.specs.declared.change.Change.TheVariants as change
use Rattle.up_ledger.specs.Eventing.{place_of}
use Rattle.up_ledger.proofs.Entering as entry
use Rattle.up_ledger.proofs.Whole.{entered-holders}
use Rattle.up_ledger.proofs.Starting.{forgets-change}
use Rattle.up_ledger.proofs.past.Past.enter.Goals as goal

pub returns-clause-after : goal.returns-clause-after
returns-clause-after c config c' i f found waits =
    let book = c.args.self.now in
    let places = place_of book.events (queue c') in
    forgets-change book _ config c' (Entered i c.args.state) c.args.key i (change.Enters c.args.state) f found (entry.is-entered places config c' i c.args.state waits f.lives.older) tt
    (λ k. entered-holders c.args.state k (is_starting c.args.state)) refl tt (λ p. refl) refl c.change_at.ensures refl refl refl

pub returns-clause-instances : goal.returns-clause-instances
returns-clause-instances c c' i k waits found =
    entry.stays c.args.self.now.instances _ c' (Entered i c.args.state ∷ c') c.args.key k (change.Enters c.args.state) i (entry.is-entered-moved c.args.state i c' waits) c.change_at.ensures found
