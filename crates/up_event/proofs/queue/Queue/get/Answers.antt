use Rattle.std.proofs.Common.{◌≡◌, refl, sym, subst, Option, IsSomeAnd}
use Rattle.up_event.specs.declared.live.LiveEvent.{LiveEvent}
use Rattle.up_event.proofs.Steps.{has_key, found}
use Rattle.up_event.proofs.queue.Queue.get.Goals as goal

pub index-requires : goal.index-requires
index-requires c = has_key _ _ _ _ c.args.id (record { invariant = c.self.invariant; view_is = c.self.view_is }) c.requires

pub returns : goal.returns
returns c =
    let named = found _ _ _ _ c.args.id _ (record { invariant = c.self.invariant; view_is = c.self.view_is }) c.index.ensures in
    subst (λ (o : Option LiveEvent). IsSomeAnd o (λ live. live.event ≡ c.index.result.now.live.event)) (sym named) refl
