use Rattle.std.proofs.Common.{length}
use Rattle.up_image.specs.Image.{body_of}
use Rattle.up_image.proofs.Images.{same_image}
use Rattle.up_image.proofs.laws.one_image.Goals as goal

pub returns : goal.returns
returns c = λ version bytes other jobs image also. same_image version (length jobs) bytes other (body_of version jobs) image.written also.written
