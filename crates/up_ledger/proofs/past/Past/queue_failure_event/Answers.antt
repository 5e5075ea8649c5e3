use Rattle.std.proofs.Common.{None, refl}
use Rattle.up_model.specs.Chronicle.{Queued, Spoilt}
use Rattle.up_ledger.proofs.Whole.{passing, forgets-queued}
use Rattle.up_ledger.proofs.past.Past.queue_failure_event.Goals as goal

pub returns : goal.returns
returns c config c' spoilt f =
    forgets-queued c.args.self.now _ config c' _ c.args.event (Spoilt spoilt) None f tt (passing config c' (Queued (Spoilt spoilt) c.args.event) (λ i. refl) (λ job. refl) (λ x. refl)) refl
    c.in_ok-push.ensures.fresh c.in_ok-push.ensures.pushed refl refl refl
