use Rattle.up_model.specs.Chronicle.{Fired, StopOn}
use Rattle.up_model.specs.Seen.{seen, taken}
use Rattle.std.proofs.Common.{◌∷◌}
use Rattle.up_cascade.proofs.offers.stop_fires.Goals as goal

pub returns-clause-after : goal.returns-clause-after
returns-clause-after g c c' i s known in_table =
    let config = c.args.setup.now in
    let events = taken c.args.job.now.stop_on (seen config (StopOn i) c') in
    c.in_ok-stop_by.ensures.after config (Fired (StopOn i) events ∷ c') i events (c.in_ok-holders.ensures.after config c' i s known in_table) known (c.in_ok-holders.ensures.taken config c' i s known in_table)

pub returns-clause-events : goal.returns-clause-events
returns-clause-events g c c' i s known in_table k j event =
    let config = c.args.setup.now in
    let events = taken c.args.job.now.stop_on (seen config (StopOn i) c') in
    c.in_ok-stop_by.ensures.events config (Fired (StopOn i) events ∷ c') i events (c.in_ok-holders.ensures.after config c' i s known in_table) known (c.in_ok-holders.ensures.taken config c' i s known in_table) k j (c.in_ok-holders.ensures.events config c' i s known in_table k j event)
