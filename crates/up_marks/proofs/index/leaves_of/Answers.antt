use Rattle.std.proofs.Common.{◌==◌, ◌∙◌, ap}
use Rattle.std.specs.List.{prefix_len}
use Rattle.up_image.specs.declared.index.Place.{Place}
use Rattle.up_marks.specs.Naming.{rank, rank_of}
use Rattle.up_marks.proofs.NameLemmas.{leaves_here}
use Rattle.up_marks.proofs.index.leaves_of.Goals as goal

pub returns : goal.returns
returns c =
    c.split_at.ensures.front
    ∙ leaves_here (rank c.args.job c.args.start) c.args.places.now c.later_of-later.result.now c.leaves_len.result c.requires c.later_of-later.ensures
    (c.leaves_len.ensures.counted ∙ ap (λ n. prefix_len (λ (x : Place). rank_of x == n) c.later_of-later.result.now) c.rank.ensures)
