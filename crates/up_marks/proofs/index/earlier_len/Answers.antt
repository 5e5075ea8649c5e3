use Rattle.std.proofs.Common.{rules, of_calls, nat_lt}
use Rattle.std.proofs.lemmas.List.Sorted.{IsPartitionPoint-from_clause}
use Rattle.up_image.specs.declared.index.Place.{Place}
use Rattle.up_marks.specs.Naming.{rank_of}
use Rattle.up_marks.proofs.NameLemmas.{parted_rank}
use Rattle.up_marks.proofs.index.earlier_len.Goals as goal

pub returns-clause-earlier : goal.returns-clause-earlier
returns-clause-earlier c =
    IsPartitionPoint-from_clause (λ (x : Place). nat_lt (rank_of x) c.args.rank) _ _ c.partition_point.ensures.partitioned (parted_rank c.args.rank 0 c.args.places.now c.requires) (λ a r f k. search (rules, of_calls))
