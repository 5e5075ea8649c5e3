use Rattle.std.specs.List.{flat_map}
use Rattle.up_image.specs.Image.{job_part}
use Rattle.up_image.specs.Index.{entries_of, index_part}
use Rattle.up_image.proofs.Comparing.{rest_decides}
use Rattle.up_image.proofs.same_image.is_body.Goals as goal

pub returns-in_ok-is-in-Some : goal.returns-in_ok-is-in-Some
returns-in_ok-is-in-Some c =
    let jobs = c.args.jobs.now in
    let goes = rw c.in-Some.is at c.in_ok-after_jobs.ensures in
    rest_decides (flat_map (job_part c.args.version) jobs) c.in-Some.index.now (index_part (entries_of jobs)) c.args.bytes.now c.in_ok-is-in-Some.is' goes c.in_ok-is-in-Some.ensures
