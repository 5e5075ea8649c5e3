use Rattle.std.proofs.Common.{◌≡◌, drop, map, None, option_map}
use Rattle.up_chart.specs.Arrows.{last_life}
use Rattle.up_chart.proofs.arrow.last_life.Given as goal

abbrev pub invariant-loop-event : goal.invariant-loop-event
invariant-loop-event l = last_life (option_map (λ event. event.now) l.last) (map (λ event. event.now) (drop l.event-index l.events))
    ≡ last_life None (map (λ event. event.now) l.events)
