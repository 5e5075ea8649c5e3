use Rattle.std.proofs.Common.{◌∙◌, sym, ap}
use Rattle.std.specs.Option.{option_copied}
use Rattle.up_model.specs.Queue.{queue}
use Rattle.up_ledger.specs.Eventing.{place_of}
use Rattle.up_ledger.proofs.Knowing.{knows, is_there}
use Rattle.up_ledger.proofs.past.Past.was_restarted.Goals as goal

pub returns-in-Some : goal.returns-in-Some
returns-in-Some c config c' i f found = (knows (place_of c.args.self.now.events (queue c')) c.args.self.now.instances config c' c.args.key i c.in-Some.kept.now f.lives found (sym c.at.ensures ∙ ap option_copied c.in-Some.is)).restarted

pub returns-in-None : goal.returns-in-None
returns-in-None c config c' i f found = is_there (place_of c.args.self.now.events (queue c')) c.args.self.now.instances config c' c.args.key i f.lives found (sym c.at.ensures ∙ ap option_copied c.in-None.is)
