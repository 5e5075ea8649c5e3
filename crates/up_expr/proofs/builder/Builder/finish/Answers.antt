use Rattle.std.proofs.Common.{◌≡◌, ◌∙◌, ap, sym, subst, length, []}
use Rattle.up_expr.specs.Flat.{IsFlat}
use Rattle.up_expr.specs.TreeCode.{tree_in, trees_after}
use Rattle.up_expr.proofs.Building.{one_flat}
use Rattle.up_expr.proofs.builder.Builder.finish.Goals as goal

pub of-requires : goal.of-requires
of-requires c =
    let one : length (trees_after c.self.inside.nodes.items []) ≡ 1 = ap length c.self.view_is ∙ c.requires in
    subst (λ ns. IsFlat ns (tree_in ns)) (sym (c.new-2.ensures ∙ c.new.ensures)) (one_flat c.self.inside.nodes.items c.self.inside.starts.items c.self.invariant one)
