use Rattle.std.proofs.Common.{refl, ◌∷◌, length, arith}
use Rattle.up_model.specs.Chronicle.{Given, Queued, Outside}
use Rattle.up_ledger.proofs.Whole.{passing, forgets-queued}
use Rattle.up_ledger.proofs.past.Past.emit.Goals as goal

pub returns : goal.returns
returns c config c' input f who =
    forgets-queued c.args.self.now _ config (Given input ∷ c') _ c.args.event (Outside (length c')) c.args.waiter f (omega arith)
    (passing config (Given input ∷ c') (Queued (Outside (length c')) c.args.event) (λ i. refl) (λ job. refl) (λ x. refl)) who c.in_ok-push.ensures.fresh c.in_ok-push.ensures.pushed refl refl refl
