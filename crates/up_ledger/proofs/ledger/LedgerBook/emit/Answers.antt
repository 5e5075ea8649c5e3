use Rattle.std.proofs.Common.{◌∙◌, sym, ap, refl, ◌∷◌, length}
use Rattle.up_model.specs.Chronicle.{Given, Queued, Outside}
use Rattle.up_ledger.specs.Asking.{waiter_of}
use Rattle.up_ledger.proofs.Ledgers.{silent, calm, waiter-known}
use Rattle.up_ledger.proofs.ledger.LedgerBook.emit.Goals as goal

pub returns : goal.returns
returns c config c' input s =
    let e = Queued (Outside (length c')) c.args.event in
    silent c.args.self.now _ config (Given input ∷ c') e s
    (c.in_ok-emit.ensures config c' input s.past (waiter-known c' input c.args.event ∙ sym (ap waiter_of s.step.asked) ∙ sym c.waiter-waiter.ensures)) tt tt (calm config (Given input ∷ c') e (λ job. refl) (λ i. refl) (λ i. refl))
