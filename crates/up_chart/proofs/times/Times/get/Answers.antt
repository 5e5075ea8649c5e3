use Rattle.std.proofs.Common.{◌∙◌}
use Rattle.up_chart.proofs.RowLemmas.{lookup_named}
use Rattle.up_chart.proofs.times.Times.get.Goals as goal

pub returns-in-Some : goal.returns-in-Some
returns-in-Some c = rw (← c.self.view_is) (c.in-Some.ensures.value ∙ lookup_named c.args.name.now c.self.inside.times.entries)

pub returns-in-None : goal.returns-in-None
returns-in-None c = rw (← c.self.view_is) (c.in-None.ensures.value ∙ lookup_named c.args.name.now c.self.inside.times.entries)
