use Rattle.std.proofs.Common.{◌≡◌, take}
use Rattle.up_conf.proofs.copies.copy_settings.Given as goal

abbrev pub invariant-loop-setting : goal.invariant-loop-setting
invariant-loop-setting l = l.copied.items ≡ take l.setting-index l.settings
