use Rattle.std.proofs.Common.{◌∙◌, ap, sym, [], arith}
use Rattle.std.proofs.lemmas.List.{take_all}
use Rattle.up_value.specs.Bindings.{set_in, set_all}
use Rattle.up_value.specs.Pairs.{pairs_bindings}
use Rattle.up_value.proofs.BindingLemmas.{set_all-more, set_all-nil}
use Rattle.up_value.proofs.pairs.Pairs.mapped.Goals as goal

pub loop-i-preserved : goal.loop-i-preserved
loop-i-preserved c =
    rw (c.in_ok-key.ensures.ok, c.in_ok-value.ensures) at c.in_ok-insert.ensures.set
    ∙ ap (set_in c.at.result.0.now c.at.result.1.now) c.loop-i.invariant
    ∙ sym (set_all-more [] (pairs_bindings c.args.self.now) c.loop-i.i _ _ c.at.ensures)

pub returns : goal.returns
returns c =
    c.loop-i.invariant
    ∙ ap (set_all []) (take_all c.loop-i.i (pairs_bindings c.args.self.now) (omega (arith, c.len-i-end.ensures, c.loop-i-test.false)))
    ∙ set_all-nil (pairs_bindings c.args.self.now) c.requires
