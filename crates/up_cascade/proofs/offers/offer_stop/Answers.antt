use Rattle.std.proofs.Common.{◌∙◌, sym, ◌∷◌}
use Rattle.up_model.specs.Chronicle.{Offered, StopOn}
use Rattle.up_cascade.proofs.Entries.{two_last}
use Rattle.up_cascade.proofs.KeyLemmas.{file-kept}
use Rattle.up_cascade.proofs.offers.offer_stop.Goals as goal

pub returns-in_ok-stop_fires-clause-after : goal.returns-in_ok-stop_fires-clause-after
returns-in_ok-stop_fires-clause-after g c c' i e s known file event =
    let config = c.args.setup.now in
    let holds = sym (c.in_ok-holds.ensures.holds config c' i e s known file event) ∙ c.if-holds.true in
    rw (holds, two_last) ((rw c.job.ensures at c.in_ok-stop_fires.ensures.after) (Offered (StopOn i) e ∷ c') i (c.in_ok-holds.ensures.after config c' i e s known file event) known (file-kept i (Offered (StopOn i) e) c' c.args.file.now file))

pub returns-in_ok-stop_fires-clause-events : goal.returns-in_ok-stop_fires-clause-events
returns-in_ok-stop_fires-clause-events g c c' i e s known file event k j other =
    let config = c.args.setup.now in
    let holds = sym (c.in_ok-holds.ensures.holds config c' i e s known file event) ∙ c.if-holds.true in
    rw (holds, two_last) ((rw c.job.ensures at c.in_ok-stop_fires.ensures.events) (Offered (StopOn i) e ∷ c') i (c.in_ok-holds.ensures.after config c' i e s known file event) known (file-kept i (Offered (StopOn i) e) c' c.args.file.now file) k j (c.in_ok-holds.ensures.events config c' i e s known file event k j other))
