use Rattle.std.proofs.Common.{◌≡◌, ◌++◌, take, drop, map}
use Rattle.up_run.specs.Silences.{excused}
use Rattle.up_run.proofs.silence.Silences.excuse_waiting.Given as goal

abbrev pub invariant-loop-i : goal.invariant-loop-i
invariant-loop-i l = record {
  list : l.self.list.items ≡ map (excused l.initial.self.reading l.initial.self.most l.daemon) (take l.i l.initial.self.list.items)
      ++ drop l.i l.initial.self.list.items;
  reading : l.self.reading ≡ l.initial.self.reading;
  most : l.self.most ≡ l.initial.self.most;
}
