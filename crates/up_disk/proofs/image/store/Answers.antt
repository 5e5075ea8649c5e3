-- For the gate's time alone: with this answer a wrong body is refused sooner.
use Rattle.std.proofs.Common.{rules}
use Rattle.up_disk.proofs.image.store.Goals as goal

pub returns-else-eq : goal.returns-else-eq
returns-else-eq c = search rules
