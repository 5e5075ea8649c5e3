use Rattle.std.proofs.Common.{◌≡◌, ◌++◌, take}
use Rattle.std.specs.List.{flat_map}
use Rattle.up_lint.specs.Lint.{export_warning}
use Rattle.up_lint.proofs.job.push_keys.Given as goal

abbrev pub invariant-loop-key : goal.invariant-loop-key
invariant-loop-key l = l.warnings.items ≡ l.initial.warnings.items ++ flat_map (export_warning l.set l.job l.sheet) (take l.key-index l.keys)
