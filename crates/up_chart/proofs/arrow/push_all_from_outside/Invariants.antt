use Rattle.std.proofs.Common.{◌≡◌, ◌++◌, map, take}
use Rattle.std.specs.List.{flat_map}
use Rattle.up_chart.specs.Arrows.{from_outside}
use Rattle.up_chart.proofs.arrow.push_all_from_outside.Given as goal

abbrev pub invariant-loop-event : goal.invariant-loop-event
invariant-loop-event l = l.arrows.items
    ≡ l.initial.arrows.items ++ flat_map (from_outside l.times l.alone l.row l.life_began) (map (λ event. event.now) (take l.event-index l.events))
