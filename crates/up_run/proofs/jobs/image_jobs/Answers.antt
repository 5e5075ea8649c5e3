-- For the gate's time alone: with this answer a wrong body is refused sooner.
use Rattle.std.proofs.Common.{rules}
use Rattle.up_run.proofs.jobs.image_jobs.Goals as goal

pub returns-in-Err : goal.returns-in-Err
returns-in-Err c = search rules
