use Rattle.std.proofs.Common.{◌≡◌, drop}
use Rattle.up_model.specs.Environments.{with_settings}
use Rattle.up_cascade.proofs.setup.environment.Given as goal

abbrev pub invariant-loop-setting : goal.invariant-loop-setting
invariant-loop-setting l = with_settings l.base (drop l.setting-index l.settings) l.env ≡ with_settings l.base l.settings l.base
