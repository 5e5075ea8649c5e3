use Rattle.std.proofs.Common.{◌≡◌, ◌-◌, map, drop}
use Rattle.up_image.specs.Definable.{are_ascending}
use Rattle.up_image.proofs.twice.are_ascending.Given as goal

-- the texts from the last one on say the whole
abbrev pub invariant-loop-i : goal.invariant-loop-i
invariant-loop-i l = are_ascending (map (λ text. text.now) l.texts) ≡ are_ascending (map (λ text. text.now) (drop (l.i - 1) l.texts))
