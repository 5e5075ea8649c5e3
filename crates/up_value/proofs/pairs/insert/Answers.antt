use Rattle.std.proofs.Common.{◌∙◌, ap, refl}
use Rattle.up_value.specs.Bindings.{bindings_of}
use Rattle.up_value.proofs.BindingLemmas.{inserted_sets}
use Rattle.up_value.proofs.pairs.insert.Goals as goal

pub returns-in-Ok-clause-set : goal.returns-in-Ok-clause-set
returns-in-Ok-clause-set c = ap bindings_of c.in-Ok.ensures.entries ∙ inserted_sets _ c.args.pairs.now.entries c.args.key c.args.value (λ a b. refl)
