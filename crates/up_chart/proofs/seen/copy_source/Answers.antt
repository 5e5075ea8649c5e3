use Rattle.std.proofs.Common.{Some, ◌∙◌, ap, sym}
use Rattle.up_chart.proofs.seen.copy_source.Goals as goal

pub returns-in_ok-source-in-Some : goal.returns-in_ok-source-in-Some
returns-in_ok-source-in-Some c = ap Some c.in_ok-source-in-Some.ensures ∙ sym c.in-Some.is
