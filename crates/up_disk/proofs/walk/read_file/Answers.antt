-- For the gate's time alone: with this answer a wrong body is refused sooner.
use Rattle.std.proofs.Common.{rules}
use Rattle.up_disk.proofs.walk.read_file.Goals as goal

pub returns : goal.returns
returns c = search rules
