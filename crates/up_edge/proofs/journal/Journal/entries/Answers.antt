-- for the gate's time alone: without it a wrong body is gone over once more, to offer an answer
use Rattle.std.proofs.Common.{rules}
use Rattle.up_edge.proofs.journal.Journal.entries.Goals as goal

pub returns : goal.returns
returns c = search rules
