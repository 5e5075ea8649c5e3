use Rattle.std.proofs.Common.{◌∙◌, sym, ap}
use Rattle.std.specs.Option.{option_copied}
use Rattle.up_ledger.proofs.Ledgers.{status-so}
use Rattle.up_ledger.proofs.past.Past.status_of.Goals as goal

pub returns-in_ok-text-in-Some : goal.returns-in_ok-text-in-Some
returns-in_ok-text-in-Some c config c' i f place =
    status-so c.args.self.now config c' c.args.key i c.in-Some.kept.now c.in_ok-text-in-Some.text f place (sym c.at.ensures ∙ ap option_copied c.in-Some.is) c.in_ok-text-in-Some.ensures
