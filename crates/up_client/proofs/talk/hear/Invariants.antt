use Rattle.std.proofs.Common.{◌≡◌, ◌++◌, None, Some}
use Rattle.up_model.specs.Values.{Bytes}
use Rattle.up_client.proofs.talk.hear.Given as goal

-- the bytes that are known at first are those that the feed holds, and those that are left
abbrev pub invariant-loop-i : goal.invariant-loop-i
invariant-loop-i g l = (bytes : Bytes) → g.S.Read.remaining l.fn.stream ≡ Some bytes → (left : Bytes) × (g.S.Read.remaining l.stream ≡ Some left) × (l.feed.fault ≡ None) × (bytes ≡ l.feed.rest ++ left)
