use Rattle.std.proofs.Common.{◌≡◌, ◌-◌, []}
use Rattle.up_image.specs.Finding.{items_at, setting_at}
use Rattle.up_image.proofs.take_lists.take_each_setting.Given as goal

-- what is left gives the whole
abbrev pub invariant-loop-i : goal.invariant-loop-i
invariant-loop-i l = items_at setting_at (l.count - l.i) l.settings.items l.rest ≡ items_at setting_at l.count [] l.fn.bytes
