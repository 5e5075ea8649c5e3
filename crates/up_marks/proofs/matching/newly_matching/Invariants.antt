use Rattle.std.proofs.Common.{◌≡◌, take, map, filter}
use Rattle.up_marks.specs.Marking.{Kept, newly_matches, marks_of}
use Rattle.up_marks.proofs.matching.newly_matching.Given as goal

-- those among the places so far
abbrev pub invariant-loop-place : goal.invariant-loop-place
invariant-loop-place l = (kept : Kept) → l.marks ≡ marks_of 0 l.condition kept
    → l.matched.items ≡ filter (newly_matches 0 l.condition kept l.event.name l.event.vars l.env) (map (λ place. place.node) (take l.place-index l.places))
