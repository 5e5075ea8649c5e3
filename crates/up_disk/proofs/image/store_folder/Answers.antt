-- For the gate's time alone: with this answer a wrong body is refused sooner.
use Rattle.std.proofs.Common.{rules}
use Rattle.up_disk.proofs.image.store_folder.Goals as goal

pub returns-in-Some : goal.returns-in-Some
returns-in-Some c = search rules
