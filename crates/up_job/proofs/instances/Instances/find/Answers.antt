use Rattle.std.proofs.Common.{◌≡◌, rules, IsSome, sym, ap, ◌∙◌}
use Rattle.up_job.specs.JobLists.{job_of, instances_in}
use Rattle.up_job.specs.InstanceLists.{named}
use Rattle.up_job.specs.Named as by_name
use Rattle.up_job.proofs.JobLemmas.{list_here}
use Rattle.up_job.proofs.instances.Instances.find.Goals as goal

pub returns-in-Ok : goal.returns-in-Ok
returns-in-Ok c =
    let jobs = c.self.inside.jobs.items in
    let at : c.in-Ok.at ≡ by_name.position job_of c.args.job.now jobs = search rules in
    let there : IsSome (by_name.named job_of c.args.job.now jobs) = search rules in
    let instances : instances_in c.args.job.now jobs ≡ c.index.result.now.instances = list_here c.args.job.now jobs c.in-Ok.at c.index.result.now at c.self.invariant.0 there c.index.ensures in
    let view : jobs ≡ c.args.self.now = search rules in
    c.find.ensures ∙ ap (λ l. named c.args.instance.now l) (sym instances) ∙ ap (λ gs. named c.args.instance.now (instances_in c.args.job.now gs)) view
