use Rattle.std.proofs.Common.{sym, subst}
use Rattle.up_image.specs.Image.{IsImage}
use Rattle.up_disk.proofs.Stored.{same_table}
use Rattle.up_disk.proofs.image.define_table.Goals as goal

pub returns : goal.returns
returns c =
    let written = subst (λ bytes. IsImage bytes c.args.table.now) (sym c.as_slice.ensures.value) c.in-Ok.ensures.image in
    same_table c.args.folder.now c.args.table.now c.as_slice.result.now written c.in_ok-define.define c.in_ok-define.ensures
