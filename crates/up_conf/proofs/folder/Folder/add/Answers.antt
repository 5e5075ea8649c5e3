-- For the gate's time alone: with this answer a wrong body is refused sooner.
use Rattle.std.proofs.Common.{rules}
use Rattle.up_conf.proofs.folder.Folder.add.Goals as goal

pub returns-clause-added : goal.returns-clause-added
returns-clause-added c = search rules
