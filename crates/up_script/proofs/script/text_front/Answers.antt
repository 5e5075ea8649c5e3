use Rattle.std.proofs.Common.{◌∙◌, sym, refl}
use Rattle.up_script.proofs.Splitting.{fronts, more_texts, some_left}
use Rattle.up_script.proofs.script.text_front.Goals as goal

pub lines-smaller : goal.lines-smaller
lines-smaller c = c.split_line.ensures.shorter (some_left c.lines.rest.now (sym c.begins_text.ensures ∙ c.lines-test.true))

pub lines-preserved : goal.lines-preserved
lines-preserved c =
    rw c.split_line.ensures.after (more_texts c.args.script.now c.lines.rest.now c.lines.count (sym c.begins_text.ensures ∙ c.lines-test.true) c.lines.invariant)

pub returns : goal.returns
returns c = fronts c.args.script.now _ c.lines.rest.now c.lines.count refl (sym c.begins_text.ensures ∙ c.lines-test.false) c.lines.invariant
