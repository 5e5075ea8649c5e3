use Rattle.std.proofs.Common.{◌∙◌, ap, length, rules, ◌≡◌}
use Rattle.up_expr.proofs.Building.{count_is}
use Rattle.up_expr.proofs.builder.Builder.len.Goals as goal

pub returns : goal.returns
returns c =
    let same : c.len.result ≡ length c.self.inside.starts.items = search rules in
    same ∙ count_is c.self.inside.nodes.items c.self.inside.starts.items c.self.invariant ∙ ap length c.self.view_is
