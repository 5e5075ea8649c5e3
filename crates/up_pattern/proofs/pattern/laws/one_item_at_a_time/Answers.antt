use Rattle.up_pattern.proofs.Matches.{fits-matches}
use Rattle.up_pattern.proofs.pattern.laws.one_item_at_a_time.Goals as goal

pub returns : goal.returns
returns c = fits-matches
