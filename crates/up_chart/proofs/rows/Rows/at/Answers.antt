use Rattle.std.proofs.Common.{Some, ◌∙◌, sym, ap}
use Rattle.std.specs.Option.{option_map}
use Rattle.std.specs.List.{slice_get}
use Rattle.std.proofs.lemmas.Option.{slice_get-map}
use Rattle.up_chart.specs.Rows.{named}
use Rattle.up_chart.proofs.rows.Rows.at.Goals as goal

pub returns : goal.returns
returns c =
    ap (λ it. slice_get it c.args.i) (sym c.self.view_is) ∙ slice_get-map named c.self.inside.rows.entries c.args.i
    ∙ ap (option_map named) (sym c.in-Some.ensures.entry) ∙ ap (λ name. Some (name, c.in-Some.row.now)) (sym c.as_str.ensures.value)
