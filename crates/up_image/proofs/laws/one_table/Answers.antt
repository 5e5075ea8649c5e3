use Rattle.up_image.proofs.Tables.{same_jobs}
use Rattle.up_image.proofs.laws.one_table.Goals as goal

pub returns : goal.returns
returns c = λ version second bytes jobs others image also. same_jobs version second bytes jobs others image also
