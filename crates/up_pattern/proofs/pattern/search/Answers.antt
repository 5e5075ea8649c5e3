use Rattle.std.proofs.Common.{◌∙◌, sym, ap, refl, arith, length}
use Rattle.up_pattern.specs.Pattern.{all_items}
use Rattle.up_pattern.specs.Matching.{item_of_part}
use Rattle.up_pattern.proofs.Matches.{absorbs, leads-more, knows-nothing, takes-first, takes-shorter}
use Rattle.up_pattern.proofs.Segments.{kept-none}
use Rattle.up_pattern.proofs.pattern.search.Goals as goal

pub places-init : goal.places-init
places-init c = record { same = refl; shorter = omega arith; room = ap length c.nothing_known-known.ensures; kept = kept-none _ _; knows = knows-nothing _ _ c.nothing_known-known.ensures }

pub returns-in-Run : goal.returns-in-Run
returns-in-Run c =
    let run = c.in-Run.ensures.gives in
    let takes = takes-first (item_of_part c.args.part.now) _ _ _ c.in-Some.ensures.cases.0 (sym c.if-recall.ensures.answer) in
    let leads = leads-more (item_of_part c.args.part.now) (all_items c.args.text.now) c.places.left.now c.in-Some.beyond.now (all_items c.in-Run.rest.now) c.in-Run.left.now c.requires.one takes run.3 run.0 in
    let shorter = takes-shorter (item_of_part c.args.part.now) c.places.left.now c.in-Some.beyond.now takes in
    (sym c.places.invariant.same ∙ absorbs _ _ _ _ leads, run.1, run.2, omega (arith, run.3, shorter, c.places.invariant.shorter))
