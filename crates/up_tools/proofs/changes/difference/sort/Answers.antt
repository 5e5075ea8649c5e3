use Rattle.std.proofs.Common.{rules}
use Rattle.std.proofs.lemmas.Result.{on_ok_weaker}
use Rattle.up_conf.proofs.Ascending.{in_order-from_sort_by}
use Rattle.up_tools.specs.declared.changes.difference.Difference.{Difference}
use Rattle.up_tools.proofs.changes.difference.sort.Goals as goal

pub returns : goal.returns
returns c =
    on_ok_weaker c.sort_by.result
    (in_order-from_sort_by (λ (item : Difference). item.name) _ _ _ _ (λ h a r h' called. search rules) c.sort_by.ensures.stable)
    c.sort_by.ensures.sorted
