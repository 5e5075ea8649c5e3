use Rattle.std.proofs.Common.{refl}
use Rattle.up_event.proofs.Steps.{Rests, has_node, changes}
use Rattle.up_event.specs.LiveEvents.{with_change, without_hold}
use Rattle.up_event.proofs.queue.Queue.release.Goals as goal

pub release-requires : goal.release-requires
release-requires c = has_node _ _ _ _ c.args.id _ (record { invariant = c.self.invariant; view_is = c.self.view_is }) c.requires

rests : (c : goal.After-release) → Rests c.release.new.nodes c.self.inside.oldest c.self.inside.newest (with_change c.args.id (without_hold c.args.failed) c.args.self.now)
rests c = changes _ _ _ _ _ c.args.id (without_hold c.args.failed) (λ _. refl) (record { invariant = c.self.invariant; view_is = c.self.view_is }) c.release.ensures

pub invariant_of-self : goal.invariant_of-self
invariant_of-self c = (rests c).invariant

pub returns-clause-changed : goal.returns-clause-changed
returns-clause-changed c = (rests c).view_is

pub returns-clause-distinct : goal.returns-clause-distinct
returns-clause-distinct c = (rests c).invariant.distinct
