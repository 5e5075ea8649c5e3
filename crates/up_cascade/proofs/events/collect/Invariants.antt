use Rattle.std.proofs.Common.{◌≡◌, drop, map}
use Rattle.up_model.specs.Events as model
use Rattle.up_cascade.proofs.events.collect.Given as goal

-- setting what is left gives the whole
abbrev pub invariant-loop-event : goal.invariant-loop-event
invariant-loop-event l = model.collected l.env (map (λ event. event.now) (drop l.event-index l.events)) ≡ model.collected l.initial.env (map (λ event. event.now) l.events)
