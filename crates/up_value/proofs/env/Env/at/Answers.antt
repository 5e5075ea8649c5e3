use Rattle.std.proofs.Common.{◌≡◌, Some, slice_get}
use Rattle.up_value.specs.Pairs.{shared_bindings}
use Rattle.up_value.proofs.BindingLemmas.{good_at}
use Rattle.up_value.proofs.env.Env.at.Goals as goal

pub returns-clause-key : goal.returns-clause-key
returns-clause-key c =
    let here : slice_get (shared_bindings c.self.inside.pairs) c.args.i ≡ Some (c.at.result.0.now, c.at.result.1.now)
    = rw c.in-Some.is (rw c.as_ref.ensures at c.at.ensures) in
    (good_at (shared_bindings c.self.inside.pairs) c.args.i c.at.result.0.now c.at.result.1.now c.self.invariant here).0

pub returns-clause-value : goal.returns-clause-value
returns-clause-value c =
    let here : slice_get (shared_bindings c.self.inside.pairs) c.args.i ≡ Some (c.at.result.0.now, c.at.result.1.now)
    = rw c.in-Some.is (rw c.as_ref.ensures at c.at.ensures) in
    (good_at (shared_bindings c.self.inside.pairs) c.args.i c.at.result.0.now c.at.result.1.now c.self.invariant here).1
