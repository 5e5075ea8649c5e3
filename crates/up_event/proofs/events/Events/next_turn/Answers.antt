use Rattle.std.proofs.Common.{◌≡◌, ◌∙◌, ap, sym, subst}
use Rattle.up_event.specs.declared.live.TurnKind.TheVariants.{Finish}
use Rattle.up_event.specs.LiveEvents.{next_turn, AreDistinct, IsLive, MayFinish}
use Rattle.up_event.proofs.NextTurn.{for-turn, is_live, may_finish}
use Rattle.up_event.proofs.events.Events.next_turn.Goals as goal

pub returns-clause-live : goal.returns-clause-live
returns-clause-live c =
    let distinct : AreDistinct c.args.self.now = subst AreDistinct c.self.view_is c.self.invariant.1 in
    let turn : c.self.inside.next ≡ next_turn c.args.self.now = c.self.invariant.0 ∙ ap next_turn c.self.view_is in
    for-turn c.self.inside.next (λ t. IsLive t.0 c.args.self.now) (λ t is. is_live c.args.self.now t distinct (sym turn ∙ is))

pub returns-clause-finishes : goal.returns-clause-finishes
returns-clause-finishes c =
    let distinct : AreDistinct c.args.self.now = subst AreDistinct c.self.view_is c.self.invariant.1 in
    let turn : c.self.inside.next ≡ next_turn c.args.self.now = c.self.invariant.0 ∙ ap next_turn c.self.view_is in
    for-turn c.self.inside.next (λ t. t.1 ≡ Finish → MayFinish t.0 c.args.self.now) (λ t is finish. may_finish c.args.self.now t distinct (sym turn ∙ is) finish)
