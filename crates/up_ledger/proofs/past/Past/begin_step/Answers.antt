use Rattle.std.proofs.Common.{◌∷◌, sym, subst}
use Rattle.up_model.specs.Chronicle.{Given}
use Rattle.up_model.specs.declared.input.Input.{Input}
use Rattle.up_book.specs.Keys.{SpeaksOf}
use Rattle.up_ledger.specs.Standing.{Forgets}
use Rattle.up_ledger.proofs.Giving.{forgets-emit, forgets-load, forgets-request, forgets-turn}
use Rattle.up_ledger.proofs.past.Past.begin_step.Goals as goal

pub returns-in-Spawned-clause-after : goal.returns-in-Spawned-clause-after
returns-in-Spawned-clause-after c config c' f speaks =
    subst (λ (x : Input). SpeaksOf config c.args.on x c' → Forgets c.spawned_if.new.self config (Given x ∷ c')) (sym c.in-Spawned.is) (c.spawned_if.ensures.after config c' c.in-Spawned.who f) speaks

pub returns-in-Spawned-clause-events : goal.returns-in-Spawned-clause-events
returns-in-Spawned-clause-events c = c.spawned_if.ensures.events

pub returns-in-Refused-clause-after : goal.returns-in-Refused-clause-after
returns-in-Refused-clause-after c config c' f speaks =
    subst (λ (x : Input). SpeaksOf config c.args.on x c' → Forgets c.refused_if.new.self config (Given x ∷ c')) (sym c.in-Refused.is) (c.refused_if.ensures.after config c' c.in-Refused.who f) speaks

pub returns-in-Refused-clause-events : goal.returns-in-Refused-clause-events
returns-in-Refused-clause-events c = c.refused_if.ensures.events

pub returns-in-Ended-clause-after : goal.returns-in-Ended-clause-after
returns-in-Ended-clause-after c config c' f speaks =
    subst (λ (x : Input). SpeaksOf config c.args.on x c' → Forgets c.ended_if.new.self config (Given x ∷ c')) (sym c.in-Ended.is) (c.ended_if.ensures.after config c' c.in-Ended.who c.in-Ended.how f) speaks

pub returns-in-Ended-clause-events : goal.returns-in-Ended-clause-events
returns-in-Ended-clause-events c = c.ended_if.ensures.events

pub returns-in-Clock-clause-after : goal.returns-in-Clock-clause-after
returns-in-Clock-clause-after c config c' f speaks = subst (λ (x : Input). Forgets c.give_reading.new.self config (Given x ∷ c')) (sym c.in-Clock.is) (c.give_reading.ensures.after config c' f)

pub returns-in-Clock-clause-events : goal.returns-in-Clock-clause-events
returns-in-Clock-clause-events c = c.give_reading.ensures.events

pub returns-in-Emit-clause-after : goal.returns-in-Emit-clause-after
returns-in-Emit-clause-after c config c' f speaks = subst (λ (x : Input). Forgets c.args.self.now config (Given x ∷ c')) (sym c.in-Emit.is) (forgets-emit c.args.self.now config c' _ f)

pub returns-in-Request-clause-after : goal.returns-in-Request-clause-after
returns-in-Request-clause-after c config c' f speaks = subst (λ (x : Input). Forgets c.args.self.now config (Given x ∷ c')) (sym c.in-Request.is) (forgets-request c.args.self.now config c' _ _ f)

pub returns-in-Turn-clause-after : goal.returns-in-Turn-clause-after
returns-in-Turn-clause-after c config c' f speaks = subst (λ (x : Input). Forgets c.args.self.now config (Given x ∷ c')) (sym c.in-Turn.is) (forgets-turn c.args.self.now config c' f)

pub returns-in-Load-clause-after : goal.returns-in-Load-clause-after
returns-in-Load-clause-after c config c' f speaks = subst (λ (x : Input). Forgets c.args.self.now config (Given x ∷ c')) (sym c.in-Load.is) (forgets-load c.args.self.now config c' _ _ f)
