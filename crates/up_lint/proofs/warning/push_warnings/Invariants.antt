use Rattle.std.proofs.Common.{◌≡◌, ◌++◌, map, take}
use Rattle.up_lint.specs.Warnings.{warning_of}
use Rattle.up_lint.proofs.warning.push_warnings.Given as goal

abbrev pub invariant-loop-name : goal.invariant-loop-name
invariant-loop-name l = l.warnings.items ≡ l.initial.warnings.items ++ map (warning_of l.job l.spot l.kind) (take l.name-index l.names)
