use Rattle.std.proofs.Common.{◌≡◌, take}
use Rattle.up_run.specs.Silences.{NotesAll}
use Rattle.up_run.proofs.silence.Silences.note_all.Given as goal

abbrev pub invariant-loop-entry : goal.invariant-loop-entry
invariant-loop-entry l = record {
  list : NotesAll l.initial.self.reading (take l.entry-index l.passed) l.initial.self.list.items l.self.list.items;
  reading : l.self.reading ≡ l.initial.self.reading;
  most : l.self.most ≡ l.initial.self.most;
}
