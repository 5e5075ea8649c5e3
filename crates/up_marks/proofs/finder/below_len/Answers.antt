use Rattle.std.proofs.Common.{rules, of_calls}
use Rattle.std.proofs.lemmas.List.Sorted.{IsPartitionPoint-from_clause}
use Rattle.up_conf.specs.Order.{is_below}
use Rattle.up_marks.specs.declared.wanted.Wanted.{Wanted}
use Rattle.up_marks.proofs.EventRuns.{parted-below}
use Rattle.up_marks.proofs.finder.below_len.Goals as goal

pub returns-clause-below : goal.returns-clause-below
returns-clause-below c =
    IsPartitionPoint-from_clause (λ (leaf : Wanted). is_below leaf.place.event c.args.name.now) _ _ c.partition_point.ensures.partitioned (parted-below c.args.name.now c.args.leaves.now c.requires) (λ a r f k. search (rules, of_calls))
