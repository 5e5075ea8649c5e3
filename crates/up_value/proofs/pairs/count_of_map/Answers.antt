use Rattle.std.proofs.Common.{◌∙◌, sym}
use Rattle.std.proofs.lemmas.List.{length-map}
use Rattle.up_value.proofs.pairs.count_of_map.Goals as goal

pub returns : goal.returns
returns c = c.len.ensures.len ∙ sym (length-map c.args.pairs.now.entries _)
