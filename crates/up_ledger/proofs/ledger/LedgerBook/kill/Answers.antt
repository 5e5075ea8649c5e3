use Rattle.std.proofs.Common.{refl, true}
use Rattle.up_model.specs.Chronicle.{Signalled}
use Rattle.up_book.specs.Sending.{listed}
use Rattle.up_ledger.proofs.Ledgers.{keyed, more, calm, signalled}
use Rattle.up_ledger.proofs.ledger.LedgerBook.kill.Goals as goal

pub returns : goal.returns
returns c config c' i s found =
    let old = c.args.self.now in
    let e = Signalled i 9 true in
    more old _ config c' e (listed c.in_ok-sent.sent) s (c.kill.ensures.after config c' i s.past (keyed old.past config c' c.args.key i s.past found)) refl refl tt tt (calm config c' e (λ job. refl) (λ j. refl) (λ j. refl))
    (signalled old.past config c' c.args.key i 9 true c.in_ok-sent.sent s.past found c.in_ok-sent.ensures) c.in_ok-put.ensures refl refl
