use Rattle.std.proofs.Common.{◌∙◌}
use Rattle.up_ledger.proofs.Finding.{counts}
use Rattle.up_ledger.proofs.past.Past.count.Goals as goal

pub returns : goal.returns
returns c config c' its f there = c.count.ensures ∙ counts c.args.self.now config c' c.args.job its f there
