-- For the gate's time alone: with this answer a wrong body is refused sooner.
use Rattle.std.proofs.Common.{rules}
use Rattle.up_image.proofs.refusal.CompileError.name.Goals as goal

pub returns-in-TooManyJobs : goal.returns-in-TooManyJobs
returns-in-TooManyJobs c = search rules
