-- For the gate's time alone: with this answer a wrong body is refused sooner.
use Rattle.std.proofs.Common.{rules}
use Rattle.up_conf.proofs.files.read_folder.Goals as goal

pub returns-clause-report : goal.returns-clause-report
returns-clause-report c = search rules
