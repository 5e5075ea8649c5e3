use Rattle.std.proofs.Common.{rules}
use Rattle.std.proofs.lemmas.Result.{on_ok_weaker}
use Rattle.up_conf.specs.declared.job.JobDef.{JobDef}
use Rattle.up_conf.proofs.Ascending.{in_order-from_sort_by}
use Rattle.up_cascade.proofs.setup.sort_files.Goals as goal

pub returns : goal.returns
returns c =
    on_ok_weaker c.sort_by.result
    (in_order-from_sort_by (λ (item : JobDef). item.name) _ _ _ _ (λ h a r h' called. search rules) c.sort_by.ensures.stable)
    c.sort_by.ensures.sorted
