use Rattle.std.proofs.Common.{◌≡◌, ◌∙◌, ◌++◌, ◌+◌, refl, sym, ap, arith, length, if◌then◌else◌}
use Rattle.up_job.specs.declared.instance_key.InstanceKey.{InstanceKey}
use Rattle.up_book.specs.Keys.{Stepping}
use Rattle.up_cascade.specs.Settling.{hear_stops, settle_one}
use Rattle.up_cascade.proofs.Positions.{ahead-next, few-next, instance-here, one-left, none-left}
use Rattle.up_model.specs.Instances.{instances_of}
use Rattle.up_model.specs.Offers.{stop_offer}
use Rattle.up_cascade.proofs.hear.hear_stops.Goals.{then-branch, else-branch}
use Rattle.up_cascade.proofs.hear.hear_stops.Goals as goal

pub loop-turn-init : goal.loop-turn-init
loop-turn-init g c = record {
  few = omega arith;
  ahead = λ c' name e s named event. record { d = c'; left = instances_of name c'; stood = s; here = refl; count = omega arith; same = refl; events = λ k j known. known };
}

pub loop-turn-preserved : goal.loop-turn-preserved
loop-turn-preserved g c =
    let at = c.loop-turn.at in
    let stays = c.in_ok-hear_stop.field-0 in
    let next : c.if-branch.at ≡ (if stays then at + 1 else at) =
    elim c.if-branch.branch [ then-branch w ↦ w.at-is ∙ sym (ap (λ b. if b then at + 1 else at) w.if-branch.true) | else-branch w ↦ w.at-is ∙ sym (ap (λ b. if b then at + 1 else at) w.if-branch.false) ] in
    record {
      few = few-next stays at c.loop-turn.turn c.if-branch.at next c.loop-turn.invariant.few;
      ahead = λ c' name e s named event.
          let config = c.args.setup.now in
          let so_far = c.loop-turn.invariant.ahead c' name e s named event in
          let count = c.count-turn-end.ensures Stepping config c' name s named in
          let first = one-left so_far.left c.loop-turn.turn (length (instances_of name c')) so_far.count (omega (arith, count)) in
          let event_d = so_far.events c.args.event e event in
          let key : InstanceKey = record { job = c.args.index; at = at } in
          let there = instance-here config so_far.d key name first.0 first.1 named (so_far.here ∙ first.2) in
          ahead-next (g.B.Book.stands c.loop-turn.book Stepping config) (g.B.Book.stands c.hear_stop.new.book Stepping config) (λ its. hear_stops config its e) (g.B.Book.event_place c.args.book.now c')
          (g.B.Book.event_place c.loop-turn.book) (g.B.Book.event_place c.hear_stop.new.book) name at c.loop-turn.turn c' so_far first.0 first.1 first.2 stays (settle_one 5 first.0.file first.0 (stop_offer config first.0.file first.0.place e so_far.d ++ so_far.d))
          (c.in_ok-hear_stop.ensures.after so_far.d first.0 e so_far.stood there event_d) (c.in_ok-hear_stop.ensures.lists so_far.d first.0 e so_far.stood there event_d) refl
          (λ k j known. c.in_ok-hear_stop.ensures.events so_far.d first.0 e so_far.stood there event_d k j known) c.if-branch.at next;
    }

pub returns-clause-after : goal.returns-clause-after
returns-clause-after g c c' name e s named event =
    let config = c.args.setup.now in
    let so_far = c.loop-turn.invariant.ahead c' name e s named event in
    let count = c.count-turn-end.ensures Stepping config c' name s named in
    let none = none-left so_far.left c.loop-turn.turn (length (instances_of name c')) so_far.count (omega (arith, count)) in
    rw (so_far.same ∙ ap (λ its. hear_stops config its e so_far.d) none) so_far.stood

pub returns-clause-events : goal.returns-clause-events
returns-clause-events g c c' name e s named event k j known =
    let config = c.args.setup.now in
    let so_far = c.loop-turn.invariant.ahead c' name e s named event in
    let count = c.count-turn-end.ensures Stepping config c' name s named in
    let none = none-left so_far.left c.loop-turn.turn (length (instances_of name c')) so_far.count (omega (arith, count)) in
    rw (so_far.same ∙ ap (λ its. hear_stops config its e so_far.d) none) (so_far.events k j known)
