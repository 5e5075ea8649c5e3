use Rattle.std.proofs.Common.{◌∙◌, sym, rules, of_calls, not}
use Rattle.std.proofs.lemmas.List.Sorted.{IsPartitionPoint-from_clause}
use Rattle.up_conf.specs.Order.{is_below}
use Rattle.up_marks.specs.declared.wanted.Wanted.{Wanted}
use Rattle.up_marks.proofs.Edges.{all-by_last}
use Rattle.up_marks.proofs.EventRuns.{parted-upto}
use Rattle.up_marks.proofs.finder.upto_len.Goals as goal

pub returns-in-Some-clause-upto : goal.returns-in-Some-clause-upto
returns-in-Some-clause-upto c =
    all-by_last (λ (leaf : Wanted). not (is_below c.args.name.now leaf.place.event)) c.args.leaves.now c.in-Some.last.now (parted-upto c.args.name.now c.args.leaves.now c.requires)
    (sym c.in-Some.ensures.value) (sym c.is_upto.ensures ∙ c.if-is_upto.true)

pub returns-in_default-clause-upto : goal.returns-in_default-clause-upto
returns-in_default-clause-upto c =
    IsPartitionPoint-from_clause (λ (leaf : Wanted). not (is_below c.args.name.now leaf.place.event)) _ _ c.partition_point.ensures.partitioned (parted-upto c.args.name.now c.args.leaves.now c.requires) (λ a r f k. search (rules, of_calls))
