use Rattle.std.proofs.Common.{◌≡◌, ◌++◌, length}
use Rattle.up_wire.specs.Answers.{frames_of}
use Rattle.up_wire.proofs.writing.push_frames.Given as goal

-- what is written, and the frames of what is left
abbrev pub invariant-loop-rest : goal.invariant-loop-rest
invariant-loop-rest l = l.out.items ++ frames_of l.ok l.rest ≡ l.initial.out.items ++ frames_of l.ok l.text

abbrev pub decreases-loop-rest : goal.decreases-loop-rest
decreases-loop-rest l = length l.rest
