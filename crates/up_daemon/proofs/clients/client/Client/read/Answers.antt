use Rattle.std.proofs.Common.{inl, inr, refl, take}
use Rattle.std.specs.Prelude.{option_map}
use Rattle.up_daemon.proofs.Doors.{found_within}
use Rattle.up_daemon.proofs.clients.client.Client.read.Goals as goal

pub returns-in_ok-stays-in-Ok-clause-once : goal.returns-in_ok-stays-in-Ok-clause-once
returns-in_ok-stays-in-Ok-clause-once g c below =
    inr (option_map (λ count. take count c.read.new.buffer) c.in-Ok.found, found_within c.in-Ok.found c.read.new.buffer c.read.auto.buffer, c.in-Ok.ensures.reports, c.in_ok-stays-in-Ok.ensures)

pub returns-in-Err-clause-once : goal.returns-in-Err-clause-once
returns-in-Err-clause-once g c below = inl (c.in-Err.ensures.reports, refl, refl)
