use Rattle.std.proofs.Common.{sym}
use Rattle.up_event.proofs.Steps.{Rests}
use Rattle.up_event.proofs.Search.{there, step, stays}
use Rattle.up_event.proofs.queue.Queue.turn_from.Goals as goal

pub index-node-requires : goal.index-node-requires
index-node-requires c =
    there _ _ _ _ _ c.loop-at.at c.in-Some.key (record { invariant = c.self.invariant; view_is = c.self.view_is }) c.loop-at.invariant c.in-Some.is

pub returns-in-Some-turn_of : goal.returns-in-Some-turn_of
returns-in-Some-turn_of c =
    let r : Rests c.self.inside.nodes c.self.inside.oldest c.self.inside.newest c.args.self.now = record { invariant = c.self.invariant; view_is = c.self.view_is } in
    let s = step _ _ _ _ _ c.loop-at.at c.in-Some.key c.index-node.result.now r c.loop-at.invariant c.in-Some.is c.index-node.ensures in
    sym (rw (sym c.in-Some-turn_of.ensures) at s.turn)

pub loop-at-smaller : goal.loop-at-smaller
loop-at-smaller c =
    let r : Rests c.self.inside.nodes c.self.inside.oldest c.self.inside.newest c.args.self.now = record { invariant = c.self.invariant; view_is = c.self.view_is } in
    (step _ _ _ _ _ c.loop-at.at c.in-Some.key c.index-node.result.now r c.loop-at.invariant c.in-Some.is c.index-node.ensures).fewer

pub loop-at-preserved : goal.loop-at-preserved
loop-at-preserved c =
    let r : Rests c.self.inside.nodes c.self.inside.oldest c.self.inside.newest c.args.self.now = record { invariant = c.self.invariant; view_is = c.self.view_is } in
    let passed = step _ _ _ _ _ c.loop-at.at c.in-Some.key c.index-node.result.now r c.loop-at.invariant c.in-Some.is c.index-node.ensures in
    stays _ _ _ _ passed (sym c.in_default-turn_of.ensures)
