use Rattle.std.specs.Prelude.{[], Option, None, Some}
use Rattle.std.specs.declared.rc.Rc.{Rc}
use Rattle.up_value.specs.Values.{Bindings}
use Rattle.up_value.specs.Bindings.{bindings_of}
use Rattle.up_value.specs.declared.pairs.Pairs.{Pairs}
use Rattle.up_value.specs.declared.pairs.Pairs.TheVariants.{Few, Many}

-- the bindings that pairs are, in a list or in a map
abbrev pub pairs_bindings : Pairs → Bindings
pairs_bindings (Few few) = few.items
pairs_bindings (Many many) = bindings_of many.entries

-- the bindings of pairs that several environments may share; without any there are none
abbrev pub shared_bindings : {Z : Type 0} → Option (Rc Pairs Z) → Bindings
shared_bindings None = []
shared_bindings (Some pairs) = pairs_bindings pairs.value
