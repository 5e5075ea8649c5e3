use Rattle.std.proofs.Common.{◌≡◌, ◌∙◌, ◌<◌, ◌+◌, sym, length, false, arith}
use Rattle.up_script.specs.Bundle.{lines_of, is_script, none_or_first, after_line, IsPart}
use Rattle.up_script.proofs.Bundles.{folders_next}
use Rattle.up_script.proofs.Passing.{not_empty}
use Rattle.up_script.proofs.bundle.read_bundle.Goals as goal

pub overflow_add-line : goal.overflow_add-line
overflow_add-line c =
    let no_script : none_or_first is_script (lines_of c.folders.rest.now) ≡ false = sym c.at_script.ensures ∙ c.folders-test.true in
    omega (arith, c.folders.invariant.room, not_empty is_script c.folders.rest.now no_script)

pub read_folder-requires-in-folders : goal.read_folder-requires-in-folders
read_folder-requires-in-folders c =
    let no_script : none_or_first is_script (lines_of c.folders.rest.now) ≡ false = sym c.at_script.ensures ∙ c.folders-test.true in
    omega (arith, c.folders.invariant.room, c.split_line.ensures.shorter (not_empty is_script c.folders.rest.now no_script))

pub folders-smaller : goal.folders-smaller
folders-smaller c =
    let no_script : none_or_first is_script (lines_of c.folders.rest.now) ≡ false = sym c.at_script.ensures ∙ c.folders-test.true in
    omega (arith, c.in_ok-part.ensures.within, c.split_line.ensures.shorter (not_empty is_script c.folders.rest.now no_script))

pub folders-preserved : goal.folders-preserved
folders-preserved c =
    let no_script : none_or_first is_script (lines_of c.folders.rest.now) ≡ false = sym c.at_script.ensures ∙ c.folders-test.true in
    let less : length (after_line c.folders.rest.now) < length c.folders.rest.now = rw (← c.split_line.ensures.after) (c.split_line.ensures.shorter (not_empty is_script c.folders.rest.now no_script)) in
    let part : IsPart (after_line c.folders.rest.now) (c.folders.line + 1) c.in_ok-part.part.folder c.in_ok-part.part.bad c.in_ok-part.part.rest.now c.in_ok-part.part.line = rw (← c.split_line.ensures.after) c.in_ok-part.ensures in
    rw c.or-bad.ensures (folders_next c.args.text.now c.folders.later.items c.push.new.self.items c.folders.bad c.folders.line c.folders.rest.now c.in_ok-part.part.folder c.in_ok-part.part.bad c.in_ok-part.part.rest.now c.in_ok-part.part.line
    c.folders.invariant no_script part c.in_ok-push.ensures.items less)
