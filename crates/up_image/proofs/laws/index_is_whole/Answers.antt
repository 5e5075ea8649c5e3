use Rattle.up_image.proofs.Entries.{entries_apart, entries_ascend, entries_whole}
use Rattle.up_image.proofs.laws.index_is_whole.Goals as goal

pub returns-clause-ascending : goal.returns-clause-ascending
returns-clause-ascending c = λ jobs. entries_ascend jobs

pub returns-clause-apart : goal.returns-clause-apart
returns-clause-apart c = λ jobs. entries_apart jobs

pub returns-clause-leaves : goal.returns-clause-leaves
returns-clause-leaves c = λ jobs name. entries_whole jobs name
