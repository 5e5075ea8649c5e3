use Rattle.std.proofs.Common.{◌∙◌, sym, ap}
use Rattle.up_value.specs.Bindings.{set_in}
use Rattle.up_value.proofs.BindingLemmas.{set_all-more}
use Rattle.up_value.proofs.env.Env.put_all.Goals as goal

pub loop-i-preserved : goal.loop-i-preserved
loop-i-preserved c =
    c.in_ok-put.ensures.ok ∙ ap (set_in c.at.result.0.now c.at.result.1.now) c.loop-i.invariant
    ∙ sym (set_all-more c.args.self.now c.args.other.now c.loop-i.i _ _ c.at.ensures.pair)
