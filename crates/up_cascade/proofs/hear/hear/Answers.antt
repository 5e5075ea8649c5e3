use Rattle.up_cascade.specs.Settling.{hear_stops}
use Rattle.up_cascade.proofs.KeyLemmas.{job_name}
use Rattle.up_model.specs.Chronicle.{Chronicle}
use Rattle.up_model.specs.Instances.{instances_of}
use Rattle.up_cascade.proofs.hear.hear.Goals as goal

pub returns-clause-after : goal.returns-clause-after
returns-clause-after g c c' e s there event =
    let job = c.args.file.now in
    let named = job_name c.args.setup.now c.args.index job there in
    let d : Chronicle = hear_stops c.args.setup.now (instances_of job.name c') e c' in
    c.in_ok-hear_start.ensures.after d e (c.in_ok-hear_stops.ensures.after c' job.name e s named event) there (c.in_ok-hear_stops.ensures.events c' job.name e s named event c.args.event e event)

pub returns-clause-events : goal.returns-clause-events
returns-clause-events g c c' e s there event k j known =
    let job = c.args.file.now in
    let named = job_name c.args.setup.now c.args.index job there in
    let d : Chronicle = hear_stops c.args.setup.now (instances_of job.name c') e c' in
    c.in_ok-hear_start.ensures.events d e (c.in_ok-hear_stops.ensures.after c' job.name e s named event) there (c.in_ok-hear_stops.ensures.events c' job.name e s named event c.args.event e event) k j (c.in_ok-hear_stops.ensures.events c' job.name e s named event k j known)
