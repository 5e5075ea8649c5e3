use Rattle.std.proofs.Common.{◌≡◌, ℕ, [], ◌∷◌, ◌∙◌, refl, rules}
use Rattle.std.specs.declared.cmp.Ordering.{Ordering}
use Rattle.std.specs.declared.cmp.Ordering.TheVariants.{Less, Equal, Greater}
use Rattle.std.specs.Ordering.{nat_cmp, ordering_then}
use Rattle.std.specs.Cmp.Lexicographic.{slice_cmp}
use Rattle.std.proofs.lemmas.Result.{on_ok_weaker}
use Rattle.up_conf.proofs.Ascending.{in_order-from_sort_by}
use Rattle.up_lint.specs.declared.warning.Warning.{Warning}
use Rattle.up_lint.proofs.order.sort_by_line.Goals as goal

-- lists of one number compare as the numbers do
single : (n m : ℕ) → nat_cmp n m ≡ slice_cmp nat_cmp (n ∷ []) (m ∷ [])
single n m = by_case (nat_cmp n m)
  where
    by_case : (o : Ordering) → o ≡ ordering_then o Equal
    by_case Less = refl
    by_case Equal = refl
    by_case Greater = refl

pub returns : goal.returns
returns c =
    on_ok_weaker c.sort_by.result
    (in_order-from_sort_by (λ (item : Warning). item.line ∷ []) _ _ _ _ (λ h a r h' called. let same : r ≡ nat_cmp a.0.now.line a.1.0.now.line = search rules in same ∙ single a.0.now.line a.1.0.now.line) c.sort_by.ensures.stable)
    c.sort_by.ensures.sorted
