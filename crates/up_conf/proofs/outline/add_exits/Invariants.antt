use Rattle.std.proofs.Common.{◌≡◌, drop}
use Rattle.up_conf.specs.Jobs.{with_new_items}
use Rattle.up_stanza.specs.Exits.{same_exit}
use Rattle.up_conf.proofs.outline.add_exits.Given as goal

-- the others are still to be added
abbrev pub invariant-loop-other : goal.invariant-loop-other
invariant-loop-other l = with_new_items same_exit l.exits (drop l.other-index l.others) ≡ with_new_items same_exit l.initial.exits l.others
