use Rattle.std.proofs.Common.{◌≡◌, drop}
use Rattle.up_run.specs.Silences.{first_over}
use Rattle.up_run.proofs.silence.Silences.first_silent.Given as goal

abbrev pub invariant-loop-silence : goal.invariant-loop-silence
invariant-loop-silence l = first_over l.self.reading l.self.most l.silence-items
    ≡ first_over l.self.reading l.self.most (drop l.silence-index l.silence-items)
