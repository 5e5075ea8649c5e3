use Rattle.std.proofs.Common.{◌≡◌, ◌∙◌, ◌++◌, sym, false, arith}
use Rattle.up_script.specs.Bundle.{begins_header, is_header, lines_of, first_line}
use Rattle.up_script.proofs.Passing.{passed_first, not_empty}
use Rattle.up_script.proofs.bundle.to_header.Goals as goal

pub overflow_add-lines : goal.overflow_add-lines
overflow_add-lines c =
    let none : begins_header (lines_of c.place_after.rest.now) ≡ false = sym c.begins_header.ensures ∙ c.place_after-test.true in
    omega (arith, not_empty is_header c.place_after.rest.now none, c.place_after.invariant.1.within)

pub place_after-smaller : goal.place_after-smaller
place_after-smaller c =
    let none : begins_header (lines_of c.place_after.rest.now) ≡ false = sym c.begins_header.ensures ∙ c.place_after-test.true in
    c.split_line.ensures.shorter (not_empty is_header c.place_after.rest.now none)

pub place_after-preserved : goal.place_after-preserved
place_after-preserved c =
    let none : begins_header (lines_of c.place_after.rest.now) ≡ false = sym c.begins_header.ensures ∙ c.place_after-test.true in
    rw c.split_line.ensures.after (c.place_after.invariant.0 ++ first_line c.place_after.rest.now, passed_first c.args.text.now c.place_after.invariant.0 c.place_after.rest.now c.place_after.lines none c.place_after.invariant.1)
