use Rattle.std.proofs.Common.{◌≡◌, ◌∷◌, ◌∙◌, [], reverse, ap}
use Rattle.std.proofs.lemmas.List.{reverse-append}
use Rattle.up_daemon.proofs.work.Work.carry_to_start.Goals as goal

pub returns-in-Some-2-clause-carries : goal.returns-in-Some-2-clause-carries
returns-in-Some-2-clause-carries g c part here door source config chronicle start at =
    let taken : reverse c.loop-order.stack.items ≡ c.in-Some.order ∷ reverse c.pop.new.self.items = ap reverse c.in-Some.ensures.items ∙ reverse-append c.pop.new.self.items (c.in-Some.order ∷ []) in
    rw c.in-Some-2.is at (c.in_ok-start.ensures.carries (reverse c.pop.new.self.items) part here door source config chronicle start (rw taken at (c.loop-order.invariant.carries part here door source config chronicle start at)))

pub returns-in-Some-2-clause-starts : goal.returns-in-Some-2-clause-starts
returns-in-Some-2-clause-starts g c =
    let taken : reverse c.loop-order.stack.items ≡ c.in-Some.order ∷ reverse c.pop.new.self.items = ap reverse c.in-Some.ensures.items ∙ reverse-append c.pop.new.self.items (c.in-Some.order ∷ []) in
    (rw c.in-Some-2.is at (c.in_ok-start.ensures.starts (reverse c.pop.new.self.items))) ∙ (rw taken at c.loop-order.invariant.starts)

pub loop-order-preserved : goal.loop-order-preserved
loop-order-preserved g c =
    let taken : reverse c.loop-order.stack.items ≡ c.in-Some.order ∷ reverse c.pop.new.self.items = ap reverse c.in-Some.ensures.items ∙ reverse-append c.pop.new.self.items (c.in-Some.order ∷ []) in
    record {
      carries = λ part here door source config chronicle start at.
          rw c.in_default-2.is at (c.in_ok-start.ensures.carries (reverse c.pop.new.self.items) part here door source config chronicle start (rw taken at (c.loop-order.invariant.carries part here door source config chronicle start at)));
      starts = (rw c.in_default-2.is at (c.in_ok-start.ensures.starts (reverse c.pop.new.self.items))) ∙ (rw taken at c.loop-order.invariant.starts);
      lives = c.in_ok-start.ensures.lives ∙ c.loop-order.invariant.lives;
      waits = c.in_ok-start.ensures.waits ∙ c.loop-order.invariant.waits;
      numbers = c.in_ok-start.ensures.numbers ∙ c.loop-order.invariant.numbers;
    }
