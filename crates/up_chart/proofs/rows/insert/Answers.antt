use Rattle.std.proofs.Common.{◌∙◌, ap, refl}
use Rattle.up_chart.specs.Rows.{all_named}
use Rattle.up_chart.proofs.RowLemmas.{inserted_sets}
use Rattle.up_chart.proofs.rows.insert.Goals as goal

pub returns-in-Ok : goal.returns-in-Ok
returns-in-Ok c = ap all_named c.in-Ok.ensures.entries ∙ inserted_sets _ c.args.rows.now.entries c.args.name c.args.row (λ a b. refl)
