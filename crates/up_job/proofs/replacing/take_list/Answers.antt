use Rattle.std.proofs.Common.{◌≡◌, [], rules, sym, ◌∙◌, IsSome}
use Rattle.up_job.specs.JobLists.{job_of}
use Rattle.up_job.specs.Named as by_name
use Rattle.up_job.proofs.JobLemmas.{list_here, changed_order, changed_job}
use Rattle.up_job.proofs.replacing.take_list.Goals as goal

pub returns-in-Ok-clause-order : goal.returns-in-Ok-clause-order
returns-in-Ok-clause-order c =
    let at : c.in-Ok.at ≡ by_name.position job_of c.args.name.now c.args.jobs.now.items = search rules in
    let there : IsSome (by_name.named job_of c.args.name.now c.args.jobs.now.items) = search rules in
    changed_order c.args.name.now (λ its. []) c.args.jobs.now.items c.in-Ok.at at c.requires c.index_mut.result.now c.replace.new.dest there c.index_mut.ensures.value

pub returns-in-Ok-clause-taken : goal.returns-in-Ok-clause-taken
returns-in-Ok-clause-taken c =
    let at : c.in-Ok.at ≡ by_name.position job_of c.args.name.now c.args.jobs.now.items = search rules in
    let there : IsSome (by_name.named job_of c.args.name.now c.args.jobs.now.items) = search rules in
    c.replace.ensures.value ∙ sym (list_here c.args.name.now c.args.jobs.now.items c.in-Ok.at c.index_mut.result.now at c.requires there c.index_mut.ensures.value)

pub returns-in-Ok-clause-rest : goal.returns-in-Ok-clause-rest
returns-in-Ok-clause-rest c =
    let at : c.in-Ok.at ≡ by_name.position job_of c.args.name.now c.args.jobs.now.items = search rules in
    let there : IsSome (by_name.named job_of c.args.name.now c.args.jobs.now.items) = search rules in
    changed_job c.args.name.now (λ its. []) c.args.jobs.now.items c.in-Ok.at at c.requires c.index_mut.result.now c.replace.new.dest there c.index_mut.ensures.value (c.replace.ensures.after ∙ c.new-none.ensures)
