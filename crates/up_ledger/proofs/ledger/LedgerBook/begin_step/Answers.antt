use Rattle.std.proofs.Common.{◌∙◌, ap, refl}
use Rattle.up_model.specs.Queue.{queue}
use Rattle.up_ledger.specs.Eventing.{place_of}
use Rattle.up_ledger.proofs.Ledgers.{found-same, stood}
use Rattle.up_ledger.proofs.ledger.LedgerBook.begin_step.Goals as goal

pub returns-clause-after : goal.returns-clause-after
returns-clause-after c config c' s speaks = stood _ _ config _ (c.begin_step.ensures.after config c' s.past speaks) s.index
    (c.new.ensures config c' s.past.lives.older)
    (found-same _ config c' _ (λ job. refl) s.found)

pub returns-clause-events : goal.returns-clause-events
returns-clause-events c config c' s k j found = ap (λ events. place_of events (queue c') k) c.begin_step.ensures.events ∙ found
