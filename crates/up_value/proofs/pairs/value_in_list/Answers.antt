use Rattle.std.proofs.Common.{◌∙◌, sym, []}
use Rattle.up_value.proofs.PlaceLemmas.{placed, absent}
use Rattle.up_value.proofs.pairs.value_in_list.Goals as goal

pub returns-in-Some : goal.returns-in-Some
returns-in-Some c = rw (c.as_str.ensures) (sym (placed c.args.key.now [] c.args.pairs.now c.in-Some.place c.index-pairs-place.result (sym c.place_of.ensures ∙ c.in-Some.is)).found)

pub returns-in-None : goal.returns-in-None
returns-in-None c = sym (absent c.args.key.now [] c.args.pairs.now (sym c.place_of.ensures ∙ c.in-None.is)).none
