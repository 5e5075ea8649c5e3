use Rattle.up_image.proofs.GivenFits.{large_alone}
use Rattle.up_image.proofs.laws.only_large_ones_have_none.Goals as goal

pub returns : goal.returns
returns c = λ files apart few. large_alone files apart few
