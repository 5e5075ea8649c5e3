use Rattle.std.proofs.Common.{arith}
use Rattle.up_image.proofs.Places.{places_more}
use Rattle.up_image.proofs.index.places_of_files.Goals as goal

pub loop-at-preserved : goal.loop-at-preserved
loop-at-preserved c =
    places_more c.loop-at.places.items c.add_job.new.places.items c.args.files.now c.loop-at.at c.index-files-at.result
    (omega arith) c.loop-at.invariant (rw (← c.index-files-at.is, ← c.job.ensures) c.in_ok-add_job.ensures)
