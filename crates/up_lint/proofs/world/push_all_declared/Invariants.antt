use Rattle.std.proofs.Common.{◌≡◌, ◌++◌, take}
use Rattle.std.specs.List.{flat_map}
use Rattle.up_lint.specs.Events.{declared_by}
use Rattle.up_lint.proofs.world.push_all_declared.Given as goal

abbrev pub invariant-loop-head : goal.invariant-loop-head
invariant-loop-head l = l.events.items ≡ l.initial.events.items ++ flat_map declared_by (take l.head-index l.sheet)
