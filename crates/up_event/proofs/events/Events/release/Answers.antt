use Rattle.std.proofs.Common.{◌≡◌, ◌∙◌, sym, refl, false}
use Rattle.up_event.specs.LiveEvents.{named, with_change, without_hold}
use Rattle.up_event.specs.Turns.{has_turn}
use Rattle.up_event.proofs.NextTurn.{idle, release-idle}
use Rattle.up_event.proofs.events.Events.release.Goals as goal

pub invariant_of-self-else-has_turn : goal.invariant_of-self-else-has_turn
invariant_of-self-else-has_turn c =
    let none : has_turn (named c.args.id (with_change c.args.id (without_hold c.args.failed) c.self.inside.queue)) ≡ false =
    rw (sym c.release.ensures.changed) (sym c.has_turn.ensures ∙ c.if-has_turn.false) in (
      c.self.invariant.0
          ∙ sym (rw c.release.ensures.changed (idle c.args.id (without_hold c.args.failed) _ (λ _. refl) (release-idle c.args.failed) none)),
      c.release.ensures.distinct,
    )
