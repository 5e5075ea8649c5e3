use Rattle.up_image.proofs.Images.{have_hup}
use Rattle.up_image.proofs.laws.old_ones_have_hup.Goals as goal

pub returns : goal.returns
returns c = λ bytes jobs image. have_hup jobs image.counted
