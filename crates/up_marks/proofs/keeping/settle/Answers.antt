use Rattle.std.proofs.Common.{◌∙◌, length, refl}
use Rattle.std.proofs.lemmas.List.{set-get_or}
use Rattle.std.proofs.lemmas.Option.{slice_get_read}
use Rattle.up_marks.specs.Marking.{unset}
use Rattle.up_marks.proofs.Settled.{same_flag, settled_here, settled_next, settled_past}
use Rattle.up_marks.proofs.keeping.settle.Goals as goal

pub returns-then-mark-holds : goal.returns-then-mark-holds
returns-then-mark-holds c = λ kept tree flat settled.
    let nodes = c.args.nodes.now in
    set-get_or c.loop-place.marks c.loop-place.place unset
    ∙ settled_here nodes tree kept c.loop-place.marks c.loop-place.place c.index-nodes-place.result flat (c.loop-place.auto.marks ∙ c.requires)
    (slice_get_read nodes (length nodes) c.loop-place.place c.index-nodes-place.result refl c.loop-place-test.true c.index-nodes-place.is)
    (same_flag _ _ c.if-mark-holds.true ∙ c.holds_by-holds.ensures) (c.loop-place.invariant kept tree flat settled)

pub loop-place-preserved : goal.loop-place-preserved
loop-place-preserved c = λ kept tree flat settled.
    let nodes = c.args.nodes.now in
    settled_next nodes tree kept c.loop-place.marks c.loop-place.place c.node_above-place.result c.index-nodes-place.result c.holds_by-holds.result flat (c.loop-place.auto.marks ∙ c.requires)
    (slice_get_read nodes (length nodes) c.loop-place.place c.index-nodes-place.result refl c.loop-place-test.true c.index-nodes-place.is)
    c.holds_by-holds.ensures c.node_above-place.ensures (c.loop-place.invariant kept tree flat settled)

pub returns : goal.returns
returns c = λ kept tree flat settled.
    settled_past c.args.nodes.now tree kept c.loop-place.marks c.loop-place.place flat (c.loop-place.auto.marks ∙ c.requires) c.loop-place-test.false (c.loop-place.invariant kept tree flat settled)
