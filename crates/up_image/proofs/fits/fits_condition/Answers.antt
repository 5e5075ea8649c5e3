use Rattle.std.proofs.Common.{◌∙◌, ap}
use Rattle.std.specs.List.{list_all}
use Rattle.up_image.specs.Image.{fits_node}
use Rattle.up_image.proofs.Fitting.{fits_laid}
use Rattle.up_image.proofs.fits.fits_condition.Goals as goal

pub returns-in-Some : goal.returns-in-Some
returns-in-Some c =
    rw c.in-Some.is (fits_laid _ _ c.fit_nodes.result c.nodes.ensures (c.fit_nodes.ensures ∙ ap (λ nodes. list_all fits_node nodes) c.as_slice.ensures))
