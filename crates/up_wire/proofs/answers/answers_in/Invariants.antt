use Rattle.std.proofs.Common.{◌≡◌, ◌++◌, length, true}
use Rattle.std.specs.List.{flat_map, AllByRecursion}
use Rattle.std.specs.Str.{is_utf8}
use Rattle.up_wire.specs.Answers.{answer_frames}
use Rattle.up_wire.proofs.answers.answers_in.Given as goal

-- the bytes are the frames of the answers so far, and what is left
abbrev pub invariant-loop-answers : goal.invariant-loop-answers
invariant-loop-answers l = record {
  whole : l.bytes ≡ flat_map answer_frames l.answers.items ++ l.rest;
  each : AllByRecursion (λ answer. is_utf8 answer.text ≡ true) l.answers.items;
}

-- each answer takes bytes away
abbrev pub decreases-loop-answers : goal.decreases-loop-answers
decreases-loop-answers l = length l.rest
