use Rattle.std.proofs.Common.{◌≡◌, ◌-◌, map, drop}
use Rattle.up_image.specs.Definable.{are_ascending}
use Rattle.up_image.proofs.definable.are_ascending.Given as goal

-- the names from the last one on say the whole
abbrev pub invariant-loop-i : goal.invariant-loop-i
invariant-loop-i l = are_ascending (map (λ job. job.name) l.jobs) ≡ are_ascending (map (λ job. job.name) (drop (l.i - 1) l.jobs))
