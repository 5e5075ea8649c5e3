use Rattle.std.proofs.Common.{rules, of_calls, nat_lt}
use Rattle.std.proofs.lemmas.List.Sorted.{IsPartitionPoint-from_clause}
use Rattle.up_image.specs.declared.index.Place.{Place}
use Rattle.up_book.proofs.NextHearers.{parted-job}
use Rattle.up_book.proofs.hearers.earlier_len.Goals as goal

pub returns-clause-earlier : goal.returns-clause-earlier
returns-clause-earlier c =
    IsPartitionPoint-from_clause (λ (x : Place). nat_lt x.job c.args.job) _ _ c.partition_point.ensures.partitioned (parted-job c.args.job 0 c.args.places.now c.requires) (λ a r f k. search (rules, of_calls))
