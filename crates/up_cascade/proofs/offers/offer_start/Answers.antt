use Rattle.std.proofs.Common.{◌≡◌, ◌∙◌, ◌∷◌, Some, sym, subst}
use Rattle.up_book.specs.Keys.{Stepping}
use Rattle.up_conf.specs.declared.job.JobDef.{JobDef}
use Rattle.up_model.specs.Chronicle.{Offered, StartOn}
use Rattle.up_model.specs.Environments.{env_of_job}
use Rattle.up_model.specs.Seen as seen
use Rattle.up_cascade.proofs.Entries.{two_last}
use Rattle.up_cascade.proofs.offers.offer_start.Goals as goal

pub returns-in_ok-start_fires-clause-after : goal.returns-in_ok-start_fires-clause-after
returns-in_ok-start_fires-clause-after g c c' e s named event =
    let config = c.args.setup.now in
    let job = c.args.file.now in
    let env : c.environment_at.result.now ≡ env_of_job config c.job.result.now.name = rw c.job.ensures (c.environment_at.ensures job named) in
    let true_then : c.in_ok-holds.holds ≡ seen.holds job.start_on (seen.seen config (StartOn job.name) (Offered (StartOn job.name) e ∷ c')) =
    subst (λ (j : JobDef). c.in_ok-holds.holds ≡ seen.holds j.start_on (seen.seen config (StartOn j.name) (Offered (StartOn j.name) e ∷ c'))) c.job.ensures
    (c.in_ok-holds.ensures.holds config c' e s (rw c.job.ensures named) env event) in
    let after : g.B.Book.stands c.offer_start.new.self Stepping config (Offered (StartOn job.name) e ∷ c') =
    subst (λ (j : JobDef). g.B.Book.stands c.offer_start.new.self Stepping config (Offered (StartOn j.name) e ∷ c')) c.job.ensures
    (c.in_ok-holds.ensures.after config c' e s (rw c.job.ensures named) env event) in
    let holds = sym true_then ∙ c.if-holds.true in
    rw (holds, two_last) (c.in_ok-start_fires.ensures.after (Offered (StartOn job.name) e ∷ c') after named)

pub returns-in_ok-start_fires-clause-events : goal.returns-in_ok-start_fires-clause-events
returns-in_ok-start_fires-clause-events g c c' e s named event k j other =
    let config = c.args.setup.now in
    let job = c.args.file.now in
    let env : c.environment_at.result.now ≡ env_of_job config c.job.result.now.name = rw c.job.ensures (c.environment_at.ensures job named) in
    let true_then : c.in_ok-holds.holds ≡ seen.holds job.start_on (seen.seen config (StartOn job.name) (Offered (StartOn job.name) e ∷ c')) =
    subst (λ (j : JobDef). c.in_ok-holds.holds ≡ seen.holds j.start_on (seen.seen config (StartOn j.name) (Offered (StartOn j.name) e ∷ c'))) c.job.ensures
    (c.in_ok-holds.ensures.holds config c' e s (rw c.job.ensures named) env event) in
    let after : g.B.Book.stands c.offer_start.new.self Stepping config (Offered (StartOn job.name) e ∷ c') =
    subst (λ (j : JobDef). g.B.Book.stands c.offer_start.new.self Stepping config (Offered (StartOn j.name) e ∷ c')) c.job.ensures
    (c.in_ok-holds.ensures.after config c' e s (rw c.job.ensures named) env event) in
    let others : g.B.Book.event_place c.offer_start.new.self (Offered (StartOn job.name) e ∷ c') k ≡ Some j =
    subst (λ (its : JobDef). g.B.Book.event_place c.offer_start.new.self (Offered (StartOn its.name) e ∷ c') k ≡ Some j) c.job.ensures
    (c.in_ok-holds.ensures.events config c' e s (rw c.job.ensures named) env event k j other) in
    let holds = sym true_then ∙ c.if-holds.true in
    rw (holds, two_last) (c.in_ok-start_fires.ensures.events (Offered (StartOn job.name) e ∷ c') after named k j others)
