use Rattle.std.proofs.lemmas.Result.{IfOk-weaker}
use Rattle.up_tools.specs.Changes.{Compares}
use Rattle.up_tools.specs.Parts.{same_part}
use Rattle.up_tools.proofs.Sameness.{same_part-Decides}
use Rattle.up_tools.proofs.changes.compare.Goals as goal

pub returns : goal.returns
returns c = IfOk-weaker c.lines.result _ (λ text. Compares c.args.old.now c.args.new.now text.items)
    (λ text are. record { same = same_part; tells = same_part-Decides; are = are }) c.lines.ensures
