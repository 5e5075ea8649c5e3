use Rattle.up_cascade.proofs.SetupLemmas.{order-distinct}
use Rattle.up_cascade.proofs.setup.Setup.names_differ.Goals as goal

pub returns : goal.returns
returns c = rw (← c.self.view_is) (order-distinct c.self.inside.files.items c.self.invariant.1)
