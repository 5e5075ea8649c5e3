use Rattle.std.proofs.Common.{◌≡◌, List, ◌++◌, ◌∷◌, [], Some, sym, subst}
use Rattle.std.proofs.lemmas.Result.{err_from_is_err_and}
use Rattle.up_event.specs.declared.live.LiveEvent.{LiveEvent}
use Rattle.up_event.specs.LiveEvents.{named, new_live}
use Rattle.up_event.proofs.Lists.{present_push}
use Rattle.up_event.proofs.Steps.{Rests, newest_has_key, vacant, pushes, refuses}
use Rattle.up_event.proofs.queue.Queue.push.Goals as goal

pub append-requires : goal.append-requires
append-requires c = newest_has_key _ _ _ _ (record { invariant = c.self.invariant; view_is = c.self.view_is })

refused : (c : goal.After-from_residual) → Rests c.append.new.nodes c.self.inside.oldest c.self.inside.newest c.args.self.now
refused c = refuses _ _ _ _ _ (record { invariant = c.self.invariant; view_is = c.self.view_is }) c.in_err-id.ensures.refused

pub invariant_of-self : goal.invariant_of-self
invariant_of-self c = (refused c).invariant

pub returns-in_err-id-clause-refused : goal.returns-in_err-id-clause-refused
returns-in_err-id-clause-refused c =
    let p = err_from_is_err_and c.from_residual.result c.from_residual.ensures.1 in rw p.1 (refused c).view_is

pub returns-in_err-id-clause-distinct : goal.returns-in_err-id-clause-distinct
returns-in_err-id-clause-distinct c = (refused c).invariant.distinct

pushed : (c : goal.After-self-2-1)
    → Rests c.append.new.nodes c.or-self-inside.result (Some c.in_ok-id.id.key) (c.args.self.now ++ new_live c.in_ok-id.id c.args.event c.args.waiter ∷ [])
pushed c =
    let r : Rests c.self.inside.nodes c.self.inside.oldest c.self.inside.newest c.args.self.now = record { invariant = c.self.invariant; view_is = c.self.view_is } in
    let new = c.in_ok-id.ensures in
    rw c.or-self-inside.ensures (pushes _ _ _ _ _ (new_live c.in_ok-id.id c.args.event c.args.waiter) r new.was_vacant new.nodes new.count)

pub invariant_of-self-2 : goal.invariant_of-self-2
invariant_of-self-2 c = (pushed c).invariant

pub returns-clause-pushed : goal.returns-clause-pushed
returns-clause-pushed c = (pushed c).view_is

pub returns-clause-fresh : goal.returns-clause-fresh
returns-clause-fresh c = vacant _ _ _ _ c.in_ok-id.id (record { invariant = c.self.invariant; view_is = c.self.view_is }) c.in_ok-id.ensures.was_vacant

pub returns-clause-live : goal.returns-clause-live
returns-clause-live c =
    let live = new_live c.in_ok-id.id c.args.event c.args.waiter in
    subst (λ (lives : List LiveEvent). named live.id lives ≡ Some live) (sym (pushed c).view_is) (present_push c.args.self.now live (returns-clause-fresh c))

pub returns-clause-distinct : goal.returns-clause-distinct
returns-clause-distinct c = (pushed c).invariant.distinct
