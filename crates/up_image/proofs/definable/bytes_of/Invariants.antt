use Rattle.std.proofs.Common.{◌≡◌, map, take}
use Rattle.up_image.proofs.definable.bytes_of.Given as goal

abbrev pub invariant-loop-text : goal.invariant-loop-text
invariant-loop-text l = map (λ bytes. bytes.now) l.all.items ≡ take l.text-index l.texts
