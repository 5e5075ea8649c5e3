use Rattle.std.proofs.Common.{◌≡◌, ◌≤◌, take, length}
use Rattle.up_model.specs.Values.{Bytes}
use Rattle.up_wire.specs.Answers.{Opens}
use Rattle.up_wire.proofs.answers.join_full.Given as goal

-- the text at first stays, and the bytes are the full frames of the text so far, and what is left
abbrev pub invariant-loop-payload : goal.invariant-loop-payload
invariant-loop-payload l = record {
  kept : take (length l.fn.text.items) l.text.items ≡ l.fn.text.items;
  within : length l.rest ≤ length l.fn.bytes;
  whole : length l.fn.bytes ≤ length l.rest → l.rest ≡ l.fn.bytes;
  opens : (total : Bytes) → Opens total l.fn.text.items l.fn.bytes → Opens total l.text.items l.rest;
}

-- each frame takes bytes away
abbrev pub decreases-loop-payload : goal.decreases-loop-payload
decreases-loop-payload l = length l.rest
