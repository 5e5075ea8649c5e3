use Rattle.std.proofs.Common.{◌∙◌, ap, option_map}
use Rattle.up_event.specs.declared.nodes.Node.{Node}
use Rattle.up_event.proofs.Steps.{node_of}
use Rattle.up_event.proofs.queue.Queue.find.Goals as goal

pub returns-in-Some : goal.returns-in-Some
returns-in-Some c =
    ap (option_map {T = Node} (λ node. node.live)) c.in-Some.ensures ∙ node_of _ _ _ _ c.args.id (record { invariant = c.self.invariant; view_is = c.self.view_is })

pub returns-in-None : goal.returns-in-None
returns-in-None c =
    ap (option_map {T = Node} (λ node. node.live)) c.in-None.ensures ∙ node_of _ _ _ _ c.args.id (record { invariant = c.self.invariant; view_is = c.self.view_is })
