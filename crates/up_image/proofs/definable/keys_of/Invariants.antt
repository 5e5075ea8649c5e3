use Rattle.std.proofs.Common.{◌≡◌, map, take}
use Rattle.up_image.proofs.definable.keys_of.Given as goal

abbrev pub invariant-loop-setting : goal.invariant-loop-setting
invariant-loop-setting l = map (λ key. key.now) l.keys.items ≡ map (λ setting. setting.key) (take l.setting-index l.settings)
