use Rattle.up_image.proofs.GivenFits.{files_fit}
use Rattle.up_image.proofs.laws.files_fit.Goals as goal

pub returns : goal.returns
returns c = λ files apart. files_fit files apart
