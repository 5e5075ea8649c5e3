use Rattle.std.proofs.Common.{◌≡◌, ◌∙◌, ◌++◌, true, false, refl, sym, ap, subst, arith}
use Rattle.up_book.specs.Keys.{Stepping}
use Rattle.up_cascade.specs.Settling.{ListsAfter}
use Rattle.up_cascade.proofs.KeyLemmas.{placed}
use Rattle.up_cascade.proofs.Positions.{same-instance}
use Rattle.up_cascade.proofs.Repeating.{waiting-is, still-is, not-true, not-false, one-more, one-gone, none-more}
use Rattle.up_cascade.proofs.Resting.{move-leaves, move-keeps}
use Rattle.up_cascade.proofs.Settled.{one-stays}
use Rattle.up_model.specs.Moves.{may_leave, next_of, move}
use Rattle.up_cascade.proofs.moves.moves.Goals as goal

pub loop-turn-init : goal.loop-turn-init
loop-turn-init g c c' its s there in_table =
    record { d = c'; left = 5; stood = s; there = there; count = refl; same = refl; lists = λ job. refl; events = λ k j known. known }

pub returns-then-not-may_leave-clause-after : goal.returns-then-not-may_leave-clause-after
returns-then-not-may_leave-clause-after g c c' its s there in_table =
    let config = c.args.setup.now in
    let job = c.args.job.now in
    let so_far = c.loop-turn.invariant c' its s there in_table in
    let stays : may_leave job its.place so_far.d ≡ false =
    sym (c.may_leave.ensures Stepping config so_far.d its.place so_far.stood (placed config so_far.d c.args.key its so_far.there)) ∙ c.if-not-may_leave.true in
    rw (so_far.same ∙ one-stays so_far.left job its so_far.d stays) so_far.stood

pub returns-then-not-may_leave-clause-events : goal.returns-then-not-may_leave-clause-events
returns-then-not-may_leave-clause-events g c c' its s there in_table k j known =
    let config = c.args.setup.now in
    let job = c.args.job.now in
    let so_far = c.loop-turn.invariant c' its s there in_table in
    let stays : may_leave job its.place so_far.d ≡ false =
    sym (c.may_leave.ensures Stepping config so_far.d its.place so_far.stood (placed config so_far.d c.args.key its so_far.there)) ∙ c.if-not-may_leave.true in
    rw (so_far.same ∙ one-stays so_far.left job its so_far.d stays) (so_far.events k j known)

pub returns-then-not-may_leave-clause-lists : goal.returns-then-not-may_leave-clause-lists
returns-then-not-may_leave-clause-lists g c c' its s there in_table =
    let config = c.args.setup.now in
    let job = c.args.job.now in
    let so_far = c.loop-turn.invariant c' its s there in_table in
    let stays : may_leave job its.place so_far.d ≡ false =
    sym (c.may_leave.ensures Stepping config so_far.d its.place so_far.stood (placed config so_far.d c.args.key its so_far.there)) ∙ c.if-not-may_leave.true in
    subst (ListsAfter true its c') (sym (so_far.same ∙ one-stays so_far.left job its so_far.d stays)) so_far.lists

pub returns-then-not-branch-clause-after : goal.returns-then-not-branch-clause-after
returns-then-not-branch-clause-after g c c' its s there in_table =
    let config = c.args.setup.now in
    let job = c.args.job.now in
    let so_far = c.loop-turn.invariant c' its s there in_table in
    let may : may_leave job its.place so_far.d ≡ true =
    sym (c.may_leave.ensures Stepping config so_far.d its.place so_far.stood (placed config so_far.d c.args.key its so_far.there)) ∙ c.if-not-may_leave.false in
    let gone = waiting-is (next_of job its.place so_far.d) (not-false _ (sym c.if-not-branch.true ∙ c.in_ok-move_on.ensures.stays so_far.d its so_far.stood so_far.there in_table)) in
    rw (so_far.same ∙ one-gone so_far.left c.loop-turn.turn job its so_far.d so_far.count (omega arith) may gone) (c.in_ok-move_on.ensures.after so_far.d its so_far.stood so_far.there in_table)

pub returns-then-not-branch-clause-events : goal.returns-then-not-branch-clause-events
returns-then-not-branch-clause-events g c c' its s there in_table k j known =
    let config = c.args.setup.now in
    let job = c.args.job.now in
    let so_far = c.loop-turn.invariant c' its s there in_table in
    let may : may_leave job its.place so_far.d ≡ true =
    sym (c.may_leave.ensures Stepping config so_far.d its.place so_far.stood (placed config so_far.d c.args.key its so_far.there)) ∙ c.if-not-may_leave.false in
    let gone = waiting-is (next_of job its.place so_far.d) (not-false _ (sym c.if-not-branch.true ∙ c.in_ok-move_on.ensures.stays so_far.d its so_far.stood so_far.there in_table)) in
    rw (so_far.same ∙ one-gone so_far.left c.loop-turn.turn job its so_far.d so_far.count (omega arith) may gone) (c.in_ok-move_on.ensures.events so_far.d its so_far.stood so_far.there in_table k j (so_far.events k j known))

pub returns-then-not-branch-clause-lists : goal.returns-then-not-branch-clause-lists
returns-then-not-branch-clause-lists g c c' its s there in_table =
    let config = c.args.setup.now in
    let job = c.args.job.now in
    let so_far = c.loop-turn.invariant c' its s there in_table in
    let may : may_leave job its.place so_far.d ≡ true =
    sym (c.may_leave.ensures Stepping config so_far.d its.place so_far.stood (placed config so_far.d c.args.key its so_far.there)) ∙ c.if-not-may_leave.false in
    let gone = waiting-is (next_of job its.place so_far.d) (not-false _ (sym c.if-not-branch.true ∙ c.in_ok-move_on.ensures.stays so_far.d its so_far.stood so_far.there in_table)) in
    subst (ListsAfter false its c') (sym (so_far.same ∙ one-gone so_far.left c.loop-turn.turn job its so_far.d so_far.count (omega arith) may gone))
    (λ name. move-leaves job its so_far.d gone name ∙ ap (λ xs. Rattle.up_model.specs.Instances.without_instance its.place xs) (so_far.lists name))

pub loop-turn-preserved : goal.loop-turn-preserved
loop-turn-preserved g c c' its s there in_table =
    let config = c.args.setup.now in
    let job = c.args.job.now in
    let so_far = c.loop-turn.invariant c' its s there in_table in
    let may : may_leave job its.place so_far.d ≡ true =
    sym (c.may_leave.ensures Stepping config so_far.d its.place so_far.stood (placed config so_far.d c.args.key its so_far.there)) ∙ c.if-not-may_leave.false in
    let still = still-is its.place (next_of job its.place so_far.d) (not-true _ (sym c.if-not-branch.false ∙ c.in_ok-move_on.ensures.stays so_far.d its so_far.stood so_far.there in_table)) in
    let keeps = move-keeps job its so_far.d still in
    let more = one-more so_far.left c.loop-turn.turn job its so_far.d so_far.count (omega arith) may in
    record {
      d = move job its so_far.d ++ so_far.d;
      left = more.rest;
      stood = c.in_ok-move_on.ensures.after so_far.d its so_far.stood so_far.there in_table;
      there = same-instance config so_far.d (move job its so_far.d ++ so_far.d) c.args.key keeps ∙ so_far.there;
      count = more.count;
      same = so_far.same ∙ more.same;
      lists = λ name. keeps name ∙ so_far.lists name;
      events = λ k j known. c.in_ok-move_on.ensures.events so_far.d its so_far.stood so_far.there in_table k j (so_far.events k j known);
    }

pub returns-clause-after : goal.returns-clause-after
returns-clause-after g c c' its s there in_table =
    let so_far = c.loop-turn.invariant c' its s there in_table in
    rw (so_far.same ∙ none-more so_far.left c.args.job.now its so_far.d (omega (arith, so_far.count))) so_far.stood

pub returns-clause-events : goal.returns-clause-events
returns-clause-events g c c' its s there in_table k j known =
    let so_far = c.loop-turn.invariant c' its s there in_table in
    rw (so_far.same ∙ none-more so_far.left c.args.job.now its so_far.d (omega (arith, so_far.count))) (so_far.events k j known)

pub returns-clause-lists : goal.returns-clause-lists
returns-clause-lists g c c' its s there in_table =
    let so_far = c.loop-turn.invariant c' its s there in_table in
    subst (ListsAfter true its c') (sym (so_far.same ∙ none-more so_far.left c.args.job.now its so_far.d (omega (arith, so_far.count)))) so_far.lists
