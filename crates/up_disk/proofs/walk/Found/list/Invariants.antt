use Rattle.up_disk.specs.Walk.{Keeps}
use Rattle.up_disk.proofs.walk.Found.list.Given as goal

-- the entries so far were kept
abbrev pub invariant-loop-entry : goal.invariant-loop-entry
invariant-loop-entry g l = record {
  next : (goal.iterator-loop-entry g).can_next l.entry-iterator;
  finite : (goal.iterator-loop-entry g).is_finite l.entry-iterator;
  kept : Keeps l.self.folder l.self.entries;
}
