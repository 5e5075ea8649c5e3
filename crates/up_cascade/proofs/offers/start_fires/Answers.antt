use Rattle.up_model.specs.Chronicle.{Fired, StartOn}
use Rattle.up_model.specs.Seen.{seen, taken}
use Rattle.std.proofs.Common.{◌∷◌}
use Rattle.up_cascade.proofs.offers.start_fires.Goals as goal

pub returns-clause-after : goal.returns-clause-after
returns-clause-after g c c' s named =
    let config = c.args.setup.now in
    let job = c.args.file.now in
    let events = taken job.start_on (seen config (StartOn job.name) c') in
    let after = rw c.job.ensures at (c.in_ok-holders.ensures.after config c' s (rw c.job.ensures named)) in
    let takes = rw c.job.ensures at (c.in_ok-holders.ensures.taken config c' s (rw c.job.ensures named)) in
    c.in_ok-start_by.ensures.after (Fired (StartOn job.name) events ∷ c') events after named takes

pub returns-clause-events : goal.returns-clause-events
returns-clause-events g c c' s named k j event =
    let config = c.args.setup.now in
    let job = c.args.file.now in
    let events = taken job.start_on (seen config (StartOn job.name) c') in
    let after = rw c.job.ensures at (c.in_ok-holders.ensures.after config c' s (rw c.job.ensures named)) in
    let takes = rw c.job.ensures at (c.in_ok-holders.ensures.taken config c' s (rw c.job.ensures named)) in
    let others = rw c.job.ensures at (c.in_ok-holders.ensures.events config c' s (rw c.job.ensures named) k j event) in
    c.in_ok-start_by.ensures.events (Fired (StartOn job.name) events ∷ c') events after named takes k j others
