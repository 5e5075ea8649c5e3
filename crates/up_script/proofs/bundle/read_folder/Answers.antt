use Rattle.std.proofs.Common.{◌≡◌, ◌∙◌, ◌<◌, refl, sym, ap, length, false, arith}
use Rattle.std.specs.Str.{is_utf8}
use Rattle.up_script.specs.Bundle.{lines_of, ends_folder, none_or_first, after_line, first_line, path_of}
use Rattle.up_script.proofs.Bundles.{Skips, left_next}
use Rattle.up_script.proofs.Passing.{not_empty}
use Rattle.up_script.proofs.bundle.read_folder.Goals as goal

pub overflow_add-line-in-files-2 : goal.overflow_add-line-in-files-2
overflow_add-line-in-files-2 c =
    let goes_on : none_or_first ends_folder (lines_of c.files.rest.now) ≡ false = sym c.at_end.ensures ∙ c.files-test.true in
    omega (arith, c.requires, c.files.invariant.room, c.to_header-count.ensures.within, c.split_line.ensures.shorter (not_empty ends_folder c.files.rest.now goes_on))

pub files-smaller : goal.files-smaller
files-smaller c =
    let goes_on : none_or_first ends_folder (lines_of c.files.rest.now) ≡ false = sym c.at_end.ensures ∙ c.files-test.true in
    omega (arith, c.to_header-count.ensures.within, c.split_line.ensures.shorter (not_empty ends_folder c.files.rest.now goes_on))

pub files-preserved : goal.files-preserved
files-preserved c =
    let h = c.to_header-count.ensures in
    let goes_on : none_or_first ends_folder (lines_of c.files.rest.now) ≡ false = sym c.at_end.ensures ∙ c.files-test.true in
    let skips : Skips c.split_line.result.1.now c.to_header-count.result.0.now c.to_header-count.result.1.now c.to_header-count.result.2 =
    record { content = h.content; header = h.header; files = h.files; later = h.later; script = h.script; number = h.number; bad = h.bad; within = h.within } in
    let after : Skips (after_line c.files.rest.now) c.to_header-count.result.0.now c.to_header-count.result.1.now c.to_header-count.result.2 = rw (← c.split_line.ensures.after) skips in
    let path : c.path_of.result.now ≡ path_of (first_line c.files.rest.now) = c.path_of.ensures ∙ ap path_of c.split_line.ensures.line in
    let less : length (after_line c.files.rest.now) < length c.files.rest.now = rw (← c.split_line.ensures.after) (c.split_line.ensures.shorter (not_empty ends_folder c.files.rest.now goes_on)) in
    rw c.first_bad-bad.ensures (left_next c.args.text.now c.args.line c.files.folder c.add_file.new.folder c.files.bad c.files.line c.files.rest.now c.to_header-count.result.0.now c.to_header-count.result.1.now c.to_header-count.result.2 c.in_ok-good.good
    c.files.invariant goes_on after (c.in_ok-good.ensures.folder ∙ rw path refl) (c.in_ok-good.ensures.text ∙ ap is_utf8 path) less)
