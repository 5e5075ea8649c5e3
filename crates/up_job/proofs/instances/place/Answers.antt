use Rattle.std.proofs.Common.{sym}
use Rattle.up_job.specs.JobLists.{job_of}
use Rattle.up_job.proofs.NamedLemmas.{present_here, absent_here, absent_beyond}
use Rattle.up_job.proofs.instances.place.Goals.{else-at-jobs-via-then-at-jobs+else-is, else-at-jobs-via-else-at-jobs}
use Rattle.up_job.proofs.instances.place.Goals as goal

pub returns-then-is-clause-there : goal.returns-then-is-clause-there
returns-then-is-clause-there c =
    present_here job_of c.args.name.now c.args.jobs.now c.position-at.result c.index-jobs-at.result c.position-at.ensures c.if-at-jobs.true (sym c.if-is.ensures.test)

pub returns-else-at-jobs-clause-absent : goal.returns-else-at-jobs-clause-absent
returns-else-at-jobs-clause-absent c =
    elim c.else-at-jobs.branch [
      | else-at-jobs-via-then-at-jobs+else-is w ↦
          absent_here job_of c.args.name.now c.args.jobs.now c.position-at.result w.index-jobs-at.result c.position-at.ensures c.requires w.if-at-jobs.true (sym w.if-is.ensures.test)
      | else-at-jobs-via-else-at-jobs w ↦
          absent_beyond job_of c.args.name.now c.args.jobs.now c.position-at.result c.position-at.ensures w.if-at-jobs.false
    ]
