use Rattle.std.proofs.Common.{◌∙◌, refl}
use Rattle.up_ledger.proofs.Alone.{unblocked-alone}
use Rattle.up_ledger.proofs.Blocking.{blocked-by}
use Rattle.up_ledger.proofs.Closing.{may-leave, finishes}
use Rattle.up_ledger.proofs.Finding.{finished-told}
use Rattle.up_ledger.proofs.past.Past.finish.Goals as goal

pub returns-in-None-clause-after : goal.returns-in-None-clause-after
returns-in-None-clause-after c config c' e f found free = absurd (may-leave c.args.self.now config c' c.args.id e f found free c.in-None.ensures.held)

pub returns-in-None-clause-told : goal.returns-in-None-clause-told
returns-in-None-clause-told c config c' e f found free = absurd (may-leave c.args.self.now config c' c.args.id e f found free c.in-None.ensures.held)

pub returns-in-None-clause-blocked : goal.returns-in-None-clause-blocked
returns-in-None-clause-blocked c config c' e f found free = absurd (may-leave c.args.self.now config c' c.args.id e f found free c.in-None.ensures.held)

pub returns-in-Some-clause-after : goal.returns-in-Some-clause-after
returns-in-Some-clause-after c config c' e f found free =
    let alone = c.unblock-on.ensures.after ∙ unblocked-alone c.args.self.now config c' c.args.id e c.unblock-on.result f found c.unblock-on.ensures.blocked in
    finishes c.args.self.now _ config c' c.args.id e f c.in-Some.ensures.distinct found free c.in-Some.ensures.out alone refl refl

pub returns-in-Some-clause-told : goal.returns-in-Some-clause-told
returns-in-Some-clause-told c config c' e f found free = c.in-Some.ensures.told ∙ finished-told c.args.self.now config c' c.args.id e f found

pub returns-in-Some-clause-blocked : goal.returns-in-Some-clause-blocked
returns-in-Some-clause-blocked c config c' e f found free = blocked-by c.args.self.now config c' c.args.id e c.unblock-on.result f found c.unblock-on.ensures.blocked
