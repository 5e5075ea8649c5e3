-- What a sort by falling numbers leaves.
use Rattle.std.proofs.Common.{◌≡◌, List, ap}
use Rattle.std.specs.Cmp.{nat_cmp_total}
use Rattle.std.specs.declared.cmp.Ordering.{Ordering}
use Rattle.std.specs.Fn.{Called}
use Rattle.std.specs.List.Sorted.{IsSortedByClosure, IsStableByClosure}
use Rattle.std.specs.Ordering.{is_lt, nat_cmp}
use Rattle.std.proofs.lemmas.List.Sorted.{ranks_by, answers_always, IsStrictWeakOrder-flip}
use denote.Param.Members.{Mut}
use denote.Ref.{Bor}
use Rattle.up_conf.proofs.Ascending.{sort_by_order-from_sort}
use Rattle.up_chart.specs.declared.label.Start.{Start}
use Rattle.up_chart.specs.Blame.{longest_first}

-- what `sort_by` leaves, if its closure compares how long starts took, the longer before the shorter
pub longest_first-from_sort_by : {F : Type 0} (g : Mut F (Bor Start × (Bor Start × Unit {0})) Ordering) (f : F) (xs ys : List Start)
    → ((h : F) (a : Bor Start × (Bor Start × Unit {0})) (r : Ordering) (h' : F) → Called g h a r h' → r ≡ nat_cmp a.1.0.now.took a.0.now.took)
    → IsStableByClosure g f xs ys → IsSortedByClosure g f ys → ys ≡ longest_first xs
longest_first-from_sort_by g f xs ys answers stable sorted =
    let o = IsStrictWeakOrder-flip _ (ranks_by nat_cmp_total (λ (start : Start). start.took)) in
    let always = answers_always g (λ a r. is_lt r ≡ is_lt (nat_cmp a.1.0.now.took a.0.now.took)) f (λ h a r h' called. ap is_lt (answers h a r h' called)) in
    sort_by_order-from_sort _ o xs ys (sorted _ o always) (stable _ o always)
