use Rattle.std.proofs.Common.{◌∙◌, sym, ap}
use Rattle.std.specs.Option.{option_copied}
use Rattle.up_model.specs.Queue.{queue}
use Rattle.up_ledger.specs.Eventing.{place_of}
use Rattle.up_book.proofs.Keyed.{name-known, none-keyed}
use Rattle.up_ledger.proofs.past.Past.name.Goals as goal

pub returns-in-Some : goal.returns-in-Some
returns-in-Some c config c' its f here =
    c.name_of.ensures
    ∙ name-known (place_of c.args.self.now.events (queue c')) c.args.self.now.instances config c' c.args.key its c.in-Some.kept.now f.lives.jobs here (sym c.at.ensures ∙ ap option_copied c.in-Some.is)

pub returns-in-None : goal.returns-in-None
returns-in-None c config c' its f here = none-keyed (place_of c.args.self.now.events (queue c')) c.args.self.now.instances config c' c.args.key its f.lives.jobs here (sym c.at.ensures ∙ ap option_copied c.in-None.is)
