use Rattle.std.proofs.Common.{◌≡◌, take}
use Rattle.std.specs.List.{All}
use Rattle.up_edge.proofs.child.place_of.Given as goal

-- none of those before this one is it
abbrev pub invariant-loop-place : goal.invariant-loop-place
invariant-loop-place g l = All (λ running. running.who ≡ l.who → running.pid ≡ l.pid → ⊥) (take l.place l.children)
