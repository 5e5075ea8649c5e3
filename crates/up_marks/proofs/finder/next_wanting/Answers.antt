use Rattle.std.proofs.Common.{◌∙◌, sym, ap, subst}
use Rattle.up_marks.specs.Finding.{IsLeastFrom, first_wanting, has_wanting}
use Rattle.up_marks.specs.Ruling.{admits}
use Rattle.up_marks.proofs.Early.{parted-early, point-early}
use Rattle.up_marks.proofs.Ordered.{next-least}
use Rattle.up_marks.proofs.finder.next_wanting.Goals as goal

pub before_len-requires : goal.before_len-requires
before_len-requires c =
    parted-early c.args.event.now.name c.args.value.now c.args.from c.args.leaves.now c.requires.ordered c.requires.named

pub returns : goal.returns
returns c =
    let test = admits c.args.jobs.now c.args.event.now in
    let name = c.args.event.now.name in
    let value = c.args.value.now in
    let leaves = c.args.leaves.now in
    let point = point-early name value c.args.from leaves c.before_len.result c.before_len.ensures.within c.requires.named c.before_len.ensures.early in
    subst (IsLeastFrom (has_wanting test name value leaves) c.args.from)
    (sym (c.first_wanting.ensures ∙ ap (first_wanting test name value) c.split_at.ensures.back))
    (next-least test name value c.args.from leaves c.before_len.result c.requires.ordered point c.before_len.ensures.within)
