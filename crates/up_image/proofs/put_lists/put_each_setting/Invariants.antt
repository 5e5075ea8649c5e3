use Rattle.std.proofs.Common.{◌≡◌, ◌++◌, take}
use Rattle.std.specs.List.{flat_map}
use Rattle.up_image.specs.Image.{setting_part}
use Rattle.up_image.proofs.put_lists.put_each_setting.Given as goal

-- what was there, and after it the items so far
abbrev pub invariant-loop-setting : goal.invariant-loop-setting
invariant-loop-setting l = l.out.items ≡ l.fn.out.items ++ flat_map setting_part (take l.setting-index l.settings)
