use Rattle.std.proofs.Common.{◌∙◌, sym, ap, subst}
use Rattle.up_marks.specs.Finding.{IsNextJob}
use Rattle.up_marks.specs.Naming.{Rising}
use Rattle.up_book.specs.Hearers.{first_from, has_stop}
use Rattle.up_book.proofs.NextHearers.{first-past, next-job}
use Rattle.up_book.proofs.Others.{rising-from}
use Rattle.up_book.proofs.hearers.next_other_in.Goals as goal

pub first_other-requires : goal.first_other-requires
first_other-requires c = subst (Rising 0) (sym c.split_at.ensures.back) (rising-from 0 c.args.places.now c.earlier_len.result c.requires)

pub returns : goal.returns
returns c =
    let test = has_stop c.args.instances.now c.args.event.now in
    subst (IsNextJob test c.args.from c.args.places.now)
    (sym (c.first_other.ensures ∙ ap (first_from test c.args.from) c.split_at.ensures.back
    ∙ first-past test c.args.from c.args.places.now c.earlier_len.result c.earlier_len.ensures.within c.earlier_len.ensures.earlier))
    (next-job test c.args.from 0 c.args.places.now c.requires)
