use Rattle.std.proofs.Common.{◌∙◌, ap}
use Rattle.std.specs.List.{list_all}
use Rattle.up_image.specs.Definable.{is_node}
use Rattle.up_image.proofs.Fitting.{given_laid}
use Rattle.up_image.proofs.definable_events.are_leaves.Goals as goal

pub returns : goal.returns
returns c =
    c.are_nodes.ensures ∙ ap (λ nodes. list_all is_node nodes) c.as_slice.ensures ∙ given_laid _ _ c.nodes.ensures
