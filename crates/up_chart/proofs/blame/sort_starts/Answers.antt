use Rattle.std.proofs.Common.{rules}
use Rattle.std.proofs.lemmas.Result.{on_ok_weaker}
use Rattle.up_chart.proofs.Ranking.{longest_first-from_sort_by}
use Rattle.up_chart.proofs.blame.sort_starts.Goals as goal

pub returns : goal.returns
returns c =
    on_ok_weaker c.sort_by.result
    (longest_first-from_sort_by _ _ _ _ (λ h a r h' called. search rules) c.sort_by.ensures.stable)
    c.sort_by.ensures.sorted
