use Rattle.up_pattern.proofs.Segments.{kept-new}
use Rattle.up_pattern.proofs.pattern.keep.Goals as goal

pub returns-then-kept_width-set_width : goal.returns-then-kept_width-set_width
returns-then-kept_width-set_width c = kept-new _ _ _ c.requires.place c.requires.settled c.requires.shorter c.nothing_known.ensures
