use Rattle.std.proofs.Common.{◌∙◌, sym, ap}
use Rattle.std.specs.Option.{option_map}
use Rattle.std.proofs.lemmas.Option.{slice_get-map}
use Rattle.up_value.specs.Bindings.{binding_of}
use Rattle.up_value.proofs.pairs.pair_of_map.Goals as goal

pub returns : goal.returns
returns c =
    rw (c.as_str.ensures.value, c.as_str-in-Some.ensures)
    (slice_get-map binding_of c.args.pairs.now.entries c.args.i ∙ ap (option_map binding_of) (sym c.in-Some.ensures.entry))
