use Rattle.std.proofs.Common.{◌∙◌, sym, ap, Some, option_map}
use Rattle.up_event.specs.LiveEvents.{without, outcome_of}
use Rattle.up_event.proofs.Steps.{Rests, has_named_key, found, may_take, takes}
use Rattle.up_event.proofs.queue.Queue.finish.Goals as goal

pub take_out-node-requires : goal.take_out-node-requires
take_out-node-requires c =
    let r : Rests c.self.inside.nodes c.self.inside.oldest c.self.inside.newest c.args.self.now = record { invariant = c.self.invariant; view_is = c.self.view_is } in
    may_take _ _ _ _ c.args.id.key r (has_named_key _ _ _ _ c.args.id _ r c.requires)

rests : (c : goal.After-outcome_of)
    → Rests c.take_out-node.new.nodes c.end_without-self-inside.result c.end_without-self-inside-2.result (without c.args.id c.args.self.now)
rests c =
    let r : Rests c.self.inside.nodes c.self.inside.oldest c.self.inside.newest c.args.self.now = record { invariant = c.self.invariant; view_is = c.self.view_is } in
    let out = c.take_out-node.ensures in
    rw (c.end_without-self-inside.ensures, c.end_without-self-inside-2.ensures) (takes _ _ _ _ _ c.args.id c.take_out-node.result r out.taken out.nodes out.count)

pub invariant_of-self : goal.invariant_of-self
invariant_of-self c = (rests c).invariant

pub returns-clause-outcome : goal.returns-clause-outcome
returns-clause-outcome c =
    let r : Rests c.self.inside.nodes c.self.inside.oldest c.self.inside.newest c.args.self.now = record { invariant = c.self.invariant; view_is = c.self.view_is } in
    ap (option_map outcome_of) (found _ _ _ _ c.args.id _ r c.take_out-node.ensures.taken) ∙ ap Some (sym c.outcome_of.ensures)

pub returns-clause-gone : goal.returns-clause-gone
returns-clause-gone c = (rests c).view_is

pub returns-clause-distinct : goal.returns-clause-distinct
returns-clause-distinct c = (rests c).invariant.distinct
