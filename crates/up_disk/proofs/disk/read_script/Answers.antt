-- For the gate's time alone: with this answer a wrong body is refused sooner.
use Rattle.std.proofs.Common.{rules}
use Rattle.up_disk.proofs.disk.read_script.Goals as goal

pub returns-else-len-gt-MAX_BUNDLE : goal.returns-else-len-gt-MAX_BUNDLE
returns-else-len-gt-MAX_BUNDLE c = search rules
