use Rattle.std.proofs.Common.{rules, of_calls}
use Rattle.std.proofs.lemmas.List.Sorted.{IsPartitionPoint-from_clause}
use Rattle.up_conf.specs.Order.{is_below}
use Rattle.up_cascade.specs.Naming.{name_of}
use Rattle.up_job.proofs.NamedLemmas.{parted, parted_at}
use Rattle.up_cascade.proofs.setup.position.Goals as goal

pub returns : goal.returns
returns c =
    let point = IsPartitionPoint-from_clause (λ job. is_below (name_of job) c.args.name.now) _ _ c.partition_point.ensures.partitioned (parted name_of c.args.name.now c.args.jobs.now c.requires) (λ a r f k. search (rules, of_calls)) in
    parted_at name_of c.args.name.now c.args.jobs.now c.partition_point.result c.partition_point.ensures.bound point
