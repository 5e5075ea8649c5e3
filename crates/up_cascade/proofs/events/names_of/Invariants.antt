use Rattle.std.proofs.Common.{◌≡◌, ◌++◌, if◌then◌else◌, drop, map}
use Rattle.std.specs.Prelude.{string_bytes}
use Rattle.up_model.specs.Events as model
use Rattle.up_cascade.proofs.events.names_of.Given as goal

-- what is left, after the names so far, gives the whole
abbrev pub invariant-loop-event : goal.invariant-loop-event
invariant-loop-event l =
    let rest = map (λ event. event.now) (drop l.event-index l.events) in
    string_bytes l.text ++ (if l.is_first then model.names_of rest else model.more_names rest) ≡ model.names_of (map (λ event. event.now) l.events)
