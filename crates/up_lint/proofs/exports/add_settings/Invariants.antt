use Rattle.std.proofs.Common.{◌≡◌, drop}
use Rattle.std.specs.List.{flat_map}
use Rattle.up_lint.specs.Exports.{setting_keys}
use Rattle.up_lint.specs.Names.{with_names}
use Rattle.up_lint.proofs.exports.add_settings.Given as goal

abbrev pub invariant-loop-setting : goal.invariant-loop-setting
invariant-loop-setting l = with_names l.names (flat_map setting_keys (drop l.setting-index l.settings)) ≡ with_names l.initial.names (flat_map setting_keys l.settings)
