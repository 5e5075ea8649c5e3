use Rattle.std.proofs.Common.{◌∙◌, ap, not, nat_lt, filter}
use Rattle.up_image.specs.declared.index.Place.{Place}
use Rattle.up_marks.specs.Naming.{rank_of}
use Rattle.up_marks.proofs.NameLemmas.{later_here}
use Rattle.up_marks.proofs.index.later_of.Goals as goal

pub returns : goal.returns
returns c =
    c.split_at.ensures.back
    ∙ later_here c.rank.result c.args.places.now c.earlier_len.result c.earlier_len.ensures.within c.earlier_len.ensures.earlier
    ∙ ap (λ n. filter (λ (x : Place). not (nat_lt (rank_of x) n)) c.args.places.now) c.rank.ensures
