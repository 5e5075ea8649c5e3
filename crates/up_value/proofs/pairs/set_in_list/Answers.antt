use Rattle.std.proofs.Common.{◌∙◌, sym}
use Rattle.up_value.proofs.PlaceLemmas.{placed, absent}
use Rattle.up_value.proofs.pairs.set_in_list.Goals as goal

pub returns-in-Some-clause-set : goal.returns-in-Some-clause-set
returns-in-Some-clause-set c =
    rw c.index_mut.ensures.value
    (placed c.args.key.now c.args.value c.args.pairs.now.items c.in-Some.place c.index_mut.result.now (sym (rw c.deref.ensures.value at c.place_of.ensures) ∙ c.in-Some.is)).changed

pub returns-in-None-clause-set : goal.returns-in-None-clause-set
returns-in-None-clause-set c = rw (absent c.args.key.now c.args.value c.args.pairs.now.items (sym (rw c.deref.ensures.value at c.place_of.ensures) ∙ c.in-None.is)).last at c.add.ensures.added
