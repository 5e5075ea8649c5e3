use Rattle.std.proofs.Common.{inl, inr, refl}
use Rattle.up_daemon.proofs.clients.client.Client.write.Goals as goal

pub returns-in_ok-self-in-Ok-clause-once : goal.returns-in_ok-self-in-Ok-clause-once
returns-in_ok-self-in-Ok-clause-once g c some =
    inr (c.in-Ok.count, rw c.deref.ensures.value at c.in-Ok.ensures.reports, refl, c.in_ok-self-in-Ok.ensures.tail, refl, refl, refl, refl)

pub returns-in-Err-clause-once : goal.returns-in-Err-clause-once
returns-in-Err-clause-once g c some = inl (c.in-Err.ensures.reports, refl, refl)
