use Rattle.std.proofs.Common.{◌≡◌, drop}
use Rattle.up_conf.specs.Gathering.{AreSeen}
use Rattle.up_conf.specs.Jobs.{export_with, fold_stanzas}
use Rattle.up_conf.proofs.gathered.add_stanzas.Given as goal

-- the stanzas that are left go on with the keys so far
abbrev pub invariant-loop-stanza : goal.invariant-loop-stanza
invariant-loop-stanza l = record {
  same : fold_stanzas export_with l.keys.items (drop l.stanza-index l.stanzas) ≡ fold_stanzas export_with l.fn.keys.items l.stanzas;
  seen : AreSeen l.seen l.keys.items;
}
