use Rattle.std.proofs.Common.{◌≡◌, ◌∙◌, ap}
use Rattle.up_event.specs.LiveEvents.{without}
use Rattle.up_event.proofs.NextTurn.{found-apart, found-beyond}
use Rattle.up_event.proofs.events.Events.finish.Goals as goal
use Rattle.up_event.proofs.events.Events.finish.Goals.{then-is_turn_of, else-is_turn_of}

pub invariant_of-self : goal.invariant_of-self
invariant_of-self c = (
  elim c.if-is_turn_of.branch [
    | then-is_turn_of w ↦
        let queue : c.if-is_turn_of.self-inside.queue ≡ c.self.inside.queue = ap (λ e. e.queue) w.self-inside-is in
        let next : c.if-is_turn_of.self-inside.next ≡ w.turn_after-self-inside.result = ap (λ e. e.next) w.self-inside-is in
        found-beyond c.args.id c.self.inside.queue _ _ _ _ _ (c.finish.ensures.gone ∙ ap (without c.args.id) queue) c.self.invariant.0 c.is_turn_of.ensures w.if-is_turn_of.true
        w.turn_after-self-inside.ensures next
    | else-is_turn_of w ↦
        let queue : c.if-is_turn_of.self-inside.queue ≡ c.self.inside.queue = ap (λ e. e.queue) w.self-inside-is in
        let next : c.if-is_turn_of.self-inside.next ≡ c.self.inside.next = ap (λ e. e.next) w.self-inside-is in
        found-apart c.args.id c.self.inside.queue _ _ _ _ (c.finish.ensures.gone ∙ ap (without c.args.id) queue) c.self.invariant.0 c.is_turn_of.ensures w.if-is_turn_of.false next
  ],
  c.finish.ensures.distinct,
)
