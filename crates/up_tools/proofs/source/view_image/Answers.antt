use Rattle.std.proofs.Common.{◌⊎◌, subst}
use Rattle.up_disk.specs.Disk.{IsUnusable}
use Rattle.up_disk.proofs.Stored.{given}
use Rattle.up_tools.specs.Views.{ViewsShown}
use Rattle.up_tools.proofs.Viewing.{not_shown, over_shown}
use Rattle.up_tools.proofs.source.view_image.Goals as goal

pub returns-in-Done : goal.returns-in-Done
returns-in-Done g c =
    let image = c.args.image.now in
    let name = c.args.log.now in
    let how = c.args.view in
    given c.view_shown.result
    (λ made views. over_shown image name how c.in_ok-printed.printed made c.in_ok-printed.ensures c.in-Done.is
    (subst (λ text. ViewsShown text how name made ⊎ IsUnusable image made) c.as_slice.ensures views))
    c.view_shown.ensures

pub returns-in_default : goal.returns-in_default
returns-in_default g c = not_shown c.args.image.now c.args.log.now c.args.view c.in_ok-printed.printed c.in_ok-printed.ensures c.in_default.not-Done
