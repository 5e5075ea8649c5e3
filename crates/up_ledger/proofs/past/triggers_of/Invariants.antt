use Rattle.std.proofs.Common.{[], take}
use Rattle.up_model.specs.Configuration.{Configuration}
use Rattle.up_ledger.specs.Remembering.{StartsRemember}
use Rattle.up_book.specs.Views.{Places}
use Rattle.up_ledger.proofs.past.triggers_of.Given as goal

-- those of the jobs so far
abbrev pub invariant-loop-file : goal.invariant-loop-file
invariant-loop-file l = (places : Places) (config : Configuration) → StartsRemember places config [] l.triggers.items (take l.file-index l.jobs)
