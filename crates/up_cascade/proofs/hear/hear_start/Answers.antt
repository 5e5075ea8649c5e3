use Rattle.std.proofs.Common.{◌++◌}
use Rattle.up_cascade.proofs.KeyLemmas.{job_name}
use Rattle.up_model.specs.Chronicle.{Chronicle}
use Rattle.up_model.specs.Offers.{start_offer}
use Rattle.up_cascade.proofs.hear.hear_start.Goals as goal

pub returns-clause-events : goal.returns-clause-events
returns-clause-events g c c' e s there event k j known =
    let job = c.args.file.now in
    let d : Chronicle = start_offer c.args.setup.now job e c' ++ c' in
    c.in_ok-settle_each.ensures.events d job.name (c.in_ok-offer_start.ensures.after c' e s there event) (job_name c.args.setup.now c.args.index job there) k j (c.in_ok-offer_start.ensures.events c' e s there event k j known)

pub returns-clause-after : goal.returns-clause-after
returns-clause-after g c c' e s there event =
    let job = c.args.file.now in
    let d : Chronicle = start_offer c.args.setup.now job e c' ++ c' in
    c.in_ok-settle_each.ensures.after d job.name (c.in_ok-offer_start.ensures.after c' e s there event) (job_name c.args.setup.now c.args.index job there)
