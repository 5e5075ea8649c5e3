use Rattle.std.proofs.Common.{◌≡◌, drop}
use Rattle.up_run.specs.Silences.{reading_in}
use Rattle.up_run.proofs.silence.reading_in.Given as goal

abbrev pub invariant-loop-entry : goal.invariant-loop-entry
invariant-loop-entry l = reading_in l.before l.happened ≡ reading_in l.before (drop l.entry-index l.happened)
