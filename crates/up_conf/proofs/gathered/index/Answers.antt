use Rattle.std.proofs.lemmas.Map.Text.{btree_map_updates_str}
use Rattle.up_conf.proofs.gathered.index.Goals as goal

pub returns : goal.returns
returns c = λ other. btree_map_updates_str c.args.key.now c.args.places.now c.insert.new.self _ c.in_ok-insert.ensures.updates other
