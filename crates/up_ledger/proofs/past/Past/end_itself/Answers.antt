use Rattle.std.proofs.Common.{[], refl}
use Rattle.up_model.specs.Chronicle.{Aimed}
use Rattle.up_model.specs.declared.state.Goal.TheVariants.{Stop}
use Rattle.up_model.specs.Queue.{queue}
use Rattle.up_model.specs.Readings.{holders}
use Rattle.up_job.specs.declared.change.Change.TheVariants as change
use Rattle.up_ledger.specs.Eventing.{place_of}
use Rattle.up_ledger.proofs.Entering as entry
use Rattle.up_ledger.proofs.Starting.{forgets-change}
use Rattle.up_ledger.proofs.past.Past.end_itself.Goals as goal

pub returns : goal.returns
returns c config c' i f found =
    let book = c.args.self.now in
    forgets-change book _ config c' (Aimed i Stop [] (holders i c')) c.args.key i change.Ends f found (entry.is-ended (place_of book.events (queue c')) config c' i f.lives.older) (f.lives.older i) (λ k. refl) refl tt (λ p. refl) refl
    c.change_at.ensures refl refl refl
