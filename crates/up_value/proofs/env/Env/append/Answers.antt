use Rattle.std.proofs.Common.{◌≡◌, ◌∙◌, sym, ap, [], true}
use Rattle.up_value.specs.Bindings.{set_all, are_bindings}
use Rattle.up_value.proofs.BindingLemmas.{set_all-nil}
use Rattle.up_value.proofs.env.Env.append.Goals as goal

pub returns-then-is_empty-clause-ok : goal.returns-then-is_empty-clause-ok
returns-then-is_empty-clause-ok c =
    let none : c.args.self.now ≡ [] = c.is_empty.ensures.0 c.if-is_empty.true in
    let are : are_bindings c.args.other.now ≡ true = rw (← c.other.view_is) c.other.invariant in
    c.in_ok-self-inside.ensures ∙ c.other.view_is ∙ sym (ap (λ old. set_all old c.args.other.now) none ∙ set_all-nil c.args.other.now are)
