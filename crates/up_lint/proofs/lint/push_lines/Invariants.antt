use Rattle.std.proofs.Common.{◌≡◌, ◌++◌, take}
use Rattle.std.specs.List.{flat_map}
use Rattle.up_lint.specs.Lint.{line_unless}
use Rattle.up_lint.proofs.lint.push_lines.Given as goal

abbrev pub invariant-loop-warning : goal.invariant-loop-warning
invariant-loop-warning l = l.text.items ≡ l.initial.text.items ++ flat_map (line_unless l.left_out) (take l.warning-index l.warnings)
