use Rattle.up_value.specs.Pairs.{shared_bindings}
use Rattle.up_value.proofs.BindingLemmas.{set_or_kept}
use Rattle.up_value.proofs.env.Env.put.Goals as goal

pub invariant_of-self : goal.invariant_of-self
invariant_of-self c =
    set_or_kept c.args.key.now c.args.value.now (shared_bindings c.self.inside.pairs) (shared_bindings c.insert_in.new.pairs) c.insert_in.result c.self.invariant c.requires.key c.requires.value
    (rw c.in_ok-value.ensures at c.insert_in.ensures.set) c.insert_in.ensures.unchanged
