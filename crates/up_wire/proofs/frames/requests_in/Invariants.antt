use Rattle.std.proofs.Common.{◌≡◌, ◌++◌, length}
use Rattle.std.specs.List.{flat_map, AllByRecursion}
use Rattle.up_wire.specs.Frames.{request_frame, IsSendable}
use Rattle.up_wire.proofs.frames.requests_in.Given as goal

-- the bytes are the frames of the requests so far, and what is left
abbrev pub invariant-loop-requests : goal.invariant-loop-requests
invariant-loop-requests l = record {
  whole : l.bytes ≡ flat_map request_frame l.requests.items ++ l.rest;
  each : AllByRecursion IsSendable l.requests.items;
}

-- each frame takes bytes away
abbrev pub decreases-loop-requests : goal.decreases-loop-requests
decreases-loop-requests l = length l.rest
