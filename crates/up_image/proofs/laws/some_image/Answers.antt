use Rattle.up_image.proofs.Images.{has_it, image_of}
use Rattle.up_image.proofs.laws.some_image.Goals as goal

pub returns : goal.returns
returns c = λ jobs. (image_of jobs, λ made. has_it jobs made.0 made.1)
