use Rattle.std.proofs.Common.{◌∙◌, ap, Some}
use Rattle.up_value.proofs.BindingLemmas.{lookup_value}
use Rattle.up_value.proofs.pairs.value_in_map.Goals as goal

pub returns-in-Some : goal.returns-in-Some
returns-in-Some c = ap Some c.as_str.ensures ∙ c.in-Some.ensures.value ∙ lookup_value c.args.key.now c.args.pairs.now.entries

pub returns-in-None : goal.returns-in-None
returns-in-None c = c.in-None.ensures.value ∙ lookup_value c.args.key.now c.args.pairs.now.entries
