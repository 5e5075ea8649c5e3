use Rattle.std.proofs.Common.{◌++◌, ◌∙◌, ap, arith}
use Rattle.up_job.specs.JobLists.{stops_of}
use Rattle.up_job.proofs.StopLemmas.{stop_places-more}
use Rattle.up_job.proofs.stops.stop_places.Goals as goal

pub loop-number-preserved : goal.loop-number-preserved
loop-number-preserved c =
    let all = c.loop-number.places.items in
    stop_places-more all c.add_stops_of.new.places.items c.args.jobs.now c.loop-number.number c.index-jobs-number.result (omega arith) c.index-jobs-number.is c.loop-number.invariant
    (c.in_ok-add_stops_of.ensures ∙ ap (λ xs. all ++ stops_of c.loop-number.number xs) c.as_slice.ensures.list)
