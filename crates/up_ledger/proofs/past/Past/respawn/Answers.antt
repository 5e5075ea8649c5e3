use Rattle.std.proofs.Common.{refl}
use Rattle.up_job.specs.declared.change.Change.TheVariants as change
use Rattle.up_model.specs.Chronicle.{Respawned}
use Rattle.up_model.specs.Clock.{now}
use Rattle.up_model.specs.Queue.{queue}
use Rattle.up_ledger.specs.Eventing.{place_of}
use Rattle.up_ledger.proofs.Respawning.{is-respawned-at}
use Rattle.up_ledger.proofs.Starting.{forgets-change}
use Rattle.up_ledger.proofs.past.Past.respawn.Goals as goal

pub returns : goal.returns
returns c config c' i f found =
    let book = c.args.self.now in
    forgets-change book _ config c' (Respawned i (now c')) c.args.key i (change.Respawns book.reading) f found (is-respawned-at (place_of book.events (queue c')) config c' i book.reading f.reading f.lives.older) tt (λ k. refl) refl refl (λ p. refl) refl
    c.change_at.ensures refl refl refl
