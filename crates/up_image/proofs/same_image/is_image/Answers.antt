use Rattle.up_image.specs.Image.{body_of}
use Rattle.up_image.proofs.Comparing.{none_decides}
use Rattle.up_image.proofs.same_image.is_image.Goals as goal

pub returns-in-None : goal.returns-in-None
returns-in-None c =
    let fails = rw c.in-None.is at c.in_ok-after_head.ensures in
    none_decides (λ image. fails (body_of c.args.version c.args.jobs.now) image.written)
