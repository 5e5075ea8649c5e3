use Rattle.std.proofs.Common.{◌∙◌, sym, ap, is_lt, nat_cmp}
use Rattle.std.specs.Ordering.{ordering_then}
use Rattle.up_marks.proofs.Early.{early-is}
use Rattle.up_marks.proofs.Ordered.{lt-cmp}
use Rattle.up_marks.proofs.finder.is_early.Goals as goal

pub returns-in-Less : goal.returns-in-Less
returns-in-Less c =
    let job = nat_cmp c.args.leaf.now.place.job c.args.job in
    sym (early-is c.args.value.now c.args.job c.args.leaf.now ∙ ap (λ o. is_lt (ordering_then o job)) (sym (rw c.as_str.ensures at c.cmp.ensures) ∙ c.in-Less.is))

pub returns-in-Equal : goal.returns-in-Equal
returns-in-Equal c =
    let job = nat_cmp c.args.leaf.now.place.job c.args.job in
    sym (early-is c.args.value.now c.args.job c.args.leaf.now ∙ ap (λ o. is_lt (ordering_then o job)) (sym (rw c.as_str.ensures at c.cmp.ensures) ∙ c.in-Equal.is) ∙ lt-cmp c.args.leaf.now.place.job c.args.job)

pub returns-in-Greater : goal.returns-in-Greater
returns-in-Greater c =
    let job = nat_cmp c.args.leaf.now.place.job c.args.job in
    sym (early-is c.args.value.now c.args.job c.args.leaf.now ∙ ap (λ o. is_lt (ordering_then o job)) (sym (rw c.as_str.ensures at c.cmp.ensures) ∙ c.in-Greater.is))
