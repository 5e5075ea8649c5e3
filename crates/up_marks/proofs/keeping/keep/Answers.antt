use Rattle.std.proofs.Common.{◌∙◌, sym, ap, arith, length, slice_get}
use Rattle.std.proofs.lemmas.List.{length-set}
use Rattle.up_marks.specs.Marking.{with_kept}
use Rattle.up_marks.proofs.Markings.{flat_size}
use Rattle.up_marks.proofs.Matched.{leaf_found, leaf_within}
use Rattle.up_marks.proofs.Settled.{kept_at_none, settled_from}
use Rattle.up_marks.proofs.keeping.keep.Goals as goal

pub offset_bounds-marks-node : goal.offset_bounds-marks-node
offset_bounds-marks-node c =
    let within = leaf_within c.args.condition.now c.args.node _ c.in-Some.ensures in
    first_of (omega (arith, within, c.requires), grind (arith, within, c.requires))

pub bounds-marks-node : goal.bounds-marks-node
bounds-marks-node c = omega (arith, leaf_within c.args.condition.now c.args.node _ c.in-Some.ensures, c.requires)

pub settle-requires : goal.settle-requires
settle-requires c =
    length-set c.args.marks.now c.args.node _ ∙ c.requires ∙ sym (ap length c.as_slice.ensures ∙ flat_size c.nodes.result.now c.args.condition.now c.nodes.ensures)

pub returns-in-Some : goal.returns-in-Some
returns-in-Some c = λ kept is.
    let tree = c.args.condition.now in
    let flat = c.as_slice.ensures ∙ c.nodes.ensures.laid in
    c.settle.ensures (with_kept c.args.node c.args.event kept) tree flat
    (settled_from c.as_slice.result.now tree kept c.args.marks.now c.args.node _ c.args.event flat is (omega (arith, leaf_within tree c.args.node _ c.in-Some.ensures, c.requires))
    (ap (λ ns. slice_get ns c.args.node) flat ∙ leaf_found tree c.args.node _ c.in-Some.ensures))

pub returns-in-None : goal.returns-in-None
returns-in-None c = λ kept is. kept_at_none c.args.condition.now kept c.args.marks.now c.args.node c.args.event c.in-None.ensures is
