use Rattle.std.proofs.Common.{arith}
use Rattle.up_image.proofs.Places.{run_split}
use Rattle.up_image.proofs.index.split_run.Goals as goal

pub returns-in-Some : goal.returns-in-Some
returns-in-Some c =
    let split = c.split_at.ensures in (
      rw (split.front, split.back) (run_split c.in-Some.first.now c.in-Some.others.now c.args.places.now c.same_len-len.result c.in-Some.ensures.cases.0 c.same_len-len.ensures.counted),
      omega (arith, split.back_len),
    )
