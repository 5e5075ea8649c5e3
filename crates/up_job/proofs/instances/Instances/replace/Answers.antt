use Rattle.std.proofs.Common.{arith, refl, sym, subst}
use Rattle.up_job.specs.JobLists.{job_of, kept_job}
use Rattle.up_job.specs.Named.{AreInOrder}
use Rattle.up_job.proofs.AlarmLemmas.{all-zero}
use Rattle.up_job.proofs.JobLemmas.{order-files}
use Rattle.up_job.proofs.WaitLemmas.{beyond-all, quiet-none}
use Rattle.up_job.proofs.instances.Instances.replace.Goals as goal

pub invariant_of-self-2 : goal.invariant_of-self-2
invariant_of-self-2 c =
    (subst (AreInOrder job_of) (sym c.in_ok-kept.ensures.all) (order-files (kept_job c.self.inside.jobs.items) (λ job. refl) c.args.jobs.now c.requires), all-zero c.in_ok-kept.kept.items, quiet-none c.in_ok-kept.kept.items, beyond-all _ c.in_ok-kept.kept.items (omega (arith, c.in_ok-kept.kept.ok.0)))
