use Rattle.std.proofs.Common.{◌≡◌, [], rules, arith, subst}
use Rattle.up_job.specs.JobLists.{Changes}
use Rattle.up_job.proofs.KeptLists.{kept-all, kept-more, kept-next}
use Rattle.up_job.proofs.replacing.taken.Goals as goal

pub loop-job-init : goal.loop-job-init
loop-job-init c = record {
  order = c.requires.order;
  taken = c.in_ok-all.ensures.items;
  left = kept-all c.args.olds.now.items c.args.jobs.now;
}

pub loop-job-preserved : goal.loop-job-preserved
loop-job-preserved c =
    let so_far = c.loop-job.invariant in
    let old = c.args.olds.now.items in
    let now = c.loop-job.olds.items in
    let job = c.job-item.result in
    let name : c.in_ok-name.name ≡ job.name = search rules in record {
      order = c.take_list-instances.ensures.order;
      taken = kept-more old now c.loop-job.all.items c.push.new.self.items c.args.jobs.now c.loop-job.job-index job c.in_ok-name.name c.take_list-instances.result
          (omega arith) c.job-item.is so_far.left name c.take_list-instances.ensures.taken so_far.taken c.in_ok-push.ensures.items;
      left = kept-next old now c.take_list-instances.new.jobs.items c.args.jobs.now c.loop-job.job-index job c.requires.names (omega arith) c.job-item.is
          (subst (λ k. Changes k (λ its. []) now c.take_list-instances.new.jobs.items) name c.take_list-instances.ensures.rest) so_far.left;
    }
