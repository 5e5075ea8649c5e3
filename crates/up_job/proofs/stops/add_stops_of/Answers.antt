use Rattle.std.proofs.Common.{◌∙◌, ap, ◌++◌, false, arith}
use Rattle.up_conf.specs.declared.job.JobDef.{JobDef}
use Rattle.up_image.specs.Index.{places_in}
use Rattle.up_job.proofs.StopLemmas.{stops_of-more}
use Rattle.up_job.proofs.stops.add_stops_of.Goals as goal

pub loop-instance-preserved : goal.loop-instance-preserved
loop-instance-preserved c =
    let all = c.loop-instance.places.items in
    stops_of-more c.args.number c.args.places.now.items all c.add_stops.new.places.items c.args.instances.now c.loop-instance.instance-index c.instance-item.result
    (omega arith) c.instance-item.is c.loop-instance.invariant (c.in_ok-add_stops.ensures ∙ ap (λ (job : JobDef). all ++ places_in c.args.number false job.stop_on) c.job.ensures)
