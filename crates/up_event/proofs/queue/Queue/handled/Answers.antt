use Rattle.std.proofs.Common.{refl}
use Rattle.up_event.proofs.Steps.{Rests, has_key, changes}
use Rattle.up_event.specs.LiveEvents.{with_change, as_handled}
use Rattle.up_event.proofs.queue.Queue.handled.Goals as goal

pub handle-requires : goal.handle-requires
handle-requires c = has_key _ _ _ _ c.args.id (record { invariant = c.self.invariant; view_is = c.self.view_is }) c.requires

rests : (c : goal.After-handle) → Rests c.handle.new.nodes c.self.inside.oldest c.self.inside.newest (with_change c.args.id as_handled c.args.self.now)
rests c = changes _ _ _ _ _ c.args.id as_handled (λ _. refl) (record { invariant = c.self.invariant; view_is = c.self.view_is }) c.handle.ensures

pub invariant_of-self : goal.invariant_of-self
invariant_of-self c = (rests c).invariant

pub returns-clause-changed : goal.returns-clause-changed
returns-clause-changed c = (rests c).view_is

pub returns-clause-distinct : goal.returns-clause-distinct
returns-clause-distinct c = (rests c).invariant.distinct
