use Rattle.std.proofs.Common.{◌∙◌, sym, ap}
use Rattle.std.specs.Option.{option_copied}
use Rattle.up_model.specs.Readings.{event_at}
use Rattle.up_ledger.specs.Eventing.{Standing}
use Rattle.up_ledger.proofs.Finding.{standing-known, event-lives}
use Rattle.up_ledger.proofs.past.Past.event_at.Goals as goal

pub returns-in-Some : goal.returns-in-Some
returns-in-Some c config c' e f placed =
    let its = standing-known c.args.self.now config c' c.args.id e c.in-Some.live.now f placed (sym c.find.ensures ∙ ap option_copied c.in-Some.is) in
    ap (λ (s : Standing). s.event) its.2 ∙ ap (λ p. event_at p c') its.1

pub returns-in-None : goal.returns-in-None
returns-in-None c config c' e f placed = event-lives c.args.self.now c' c.args.id e placed (sym c.find.ensures ∙ ap option_copied c.in-None.is)
