use Rattle.std.proofs.Common.{refl}
use Rattle.up_event.proofs.Steps.{Rests, has_node, changes}
use Rattle.up_event.specs.LiveEvents.{with_change, with_hold}
use Rattle.up_event.proofs.queue.Queue.hold.Goals as goal

pub hold-requires : goal.hold-requires
hold-requires c = has_node _ _ _ _ c.args.id _ (record { invariant = c.self.invariant; view_is = c.self.view_is }) c.requires

rests : (c : goal.After-hold) → Rests c.hold.new.nodes c.self.inside.oldest c.self.inside.newest (with_change c.args.id with_hold c.args.self.now)
rests c = changes _ _ _ _ _ c.args.id with_hold (λ _. refl) (record { invariant = c.self.invariant; view_is = c.self.view_is }) c.hold.ensures

pub invariant_of-self : goal.invariant_of-self
invariant_of-self c = (rests c).invariant

pub returns-clause-changed : goal.returns-clause-changed
returns-clause-changed c = (rests c).view_is

pub returns-clause-distinct : goal.returns-clause-distinct
returns-clause-distinct c = (rests c).invariant.distinct
