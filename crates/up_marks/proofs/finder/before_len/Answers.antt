use Rattle.std.proofs.Common.{◌∙◌, sym, rules, of_calls}
use Rattle.std.proofs.lemmas.List.Sorted.{IsPartitionPoint-from_clause}
use Rattle.up_marks.specs.Finding.{is_early}
use Rattle.up_marks.specs.declared.wanted.Wanted.{Wanted}
use Rattle.up_marks.proofs.Edges.{none-by_first}
use Rattle.up_marks.proofs.finder.before_len.Goals as goal

pub returns-in-Some-clause-early : goal.returns-in-Some-clause-early
returns-in-Some-clause-early c =
    none-by_first (is_early c.args.value.now c.args.job) c.args.leaves.now c.in-Some.first.now c.requires
    (sym c.in-Some.ensures.value) (sym c.is_early.ensures ∙ c.if-not-is_early.true)

pub returns-in_default-clause-early : goal.returns-in_default-clause-early
returns-in_default-clause-early c =
    IsPartitionPoint-from_clause (λ (leaf : Wanted). is_early c.args.value.now c.args.job leaf) _ _ c.partition_point.ensures.partitioned c.requires (λ a r f k. search (rules, of_calls))
