use Rattle.std.proofs.Common.{◌≡◌, drop}
use Rattle.std.specs.Str.{bytes_eq}
use Rattle.up_conf.specs.Gathering.{AreSeen}
use Rattle.up_conf.specs.Jobs.{with_new_items}
use Rattle.up_conf.proofs.gathered.add_keys.Given as goal

-- the others are still to be added
abbrev pub invariant-loop-other : goal.invariant-loop-other
invariant-loop-other l = record {
  same : with_new_items bytes_eq l.keys.items (drop l.other-index l.others) ≡ with_new_items bytes_eq l.fn.keys.items l.others;
  seen : AreSeen l.seen l.keys.items;
}
