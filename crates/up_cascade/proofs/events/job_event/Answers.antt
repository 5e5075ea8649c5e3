use Rattle.std.proofs.Common.{◌∙◌, ap}
use Rattle.up_cascade.proofs.KeyLemmas.{placed}
use Rattle.up_model.specs.Moves.{job_event}
use Rattle.up_model.specs.Values.{Bytes}
use Rattle.up_cascade.proofs.events.job_event.Goals as goal

pub returns : goal.returns
returns g c mode config c' its s there =
    c.in_ok-event.ensures mode config c' its.place s (placed config c' c.args.key its there)
    ∙ ap (λ (name : Bytes). job_event c.args.job.now (record { job = c.args.job.now.name; instance = name }) its.place c.args.kind c') (c.name.ensures mode config c' its s there)
