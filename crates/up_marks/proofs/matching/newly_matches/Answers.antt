use Rattle.std.proofs.Common.{◌∙◌, false, sym, ap, arith, is_some, if◌then◌else◌}
use Rattle.up_expr.specs.Matching.{matches}
use Rattle.up_marks.proofs.Matched.{leaf_within, newly_leaf, newly_none}
use Rattle.up_marks.proofs.Settled.{leaf_keeps}
use Rattle.up_marks.proofs.matching.newly_matches.Goals as goal

pub offset_bounds-marks-node : goal.offset_bounds-marks-node
offset_bounds-marks-node c =
    let within = leaf_within c.args.condition.now c.args.node _ c.in-Some.ensures in
    first_of (omega (arith, within, c.requires), grind (arith, within, c.requires))

pub bounds-marks-node : goal.bounds-marks-node
bounds-marks-node c = omega (arith, leaf_within c.args.condition.now c.args.node _ c.in-Some.ensures, c.requires)

pub returns-in_ok-matched-in-Some : goal.returns-in_ok-matched-in-Some
returns-in_ok-matched-in-Some c = λ kept is.
    let tree = c.args.condition.now in
    let event = c.args.event.now in
    c.in_ok-matched-in-Some.ensures
    ∙ ap (λ k. if is_some k then false else matches c.in-Some.leaf.now event.name event.vars c.args.env.now) (leaf_keeps tree kept c.args.marks.now c.args.node c.in-Some.leaf.now c.in-Some.ensures is)
    ∙ sym (newly_leaf tree kept event.name event.vars c.args.env.now c.args.node c.in-Some.leaf.now c.in-Some.ensures)

pub returns-in-None : goal.returns-in-None
returns-in-None c = λ kept is.
    sym (newly_none c.args.condition.now kept c.args.event.now.name c.args.event.now.vars c.args.env.now c.args.node c.in-None.ensures)
