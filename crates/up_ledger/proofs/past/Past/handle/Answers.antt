use Rattle.std.proofs.Common.{refl}
use Rattle.up_ledger.proofs.Whole.{forgets-handled}
use Rattle.std.proofs.Common.{◌∙◌, ap}
use Rattle.up_model.specs.Queue.{queue, with_handled}
use Rattle.up_ledger.specs.Eventing.{place_of}
use Rattle.up_ledger.proofs.Standing.{place-handled}
use Rattle.up_ledger.proofs.past.Past.handle.Goals as goal

pub returns-clause-after : goal.returns-clause-after
returns-clause-after c config c' e f found = forgets-handled c.args.self.now _ config c' c.args.id e f found c.take_up.ensures refl refl refl

pub returns-clause-events : goal.returns-clause-events
returns-clause-events c config c' e k j f found other =
    ap (λ events. place_of events (with_handled e (queue c')) k) c.take_up.ensures ∙ place-handled c.args.self.now.events (queue c') e c.args.id k ∙ other
