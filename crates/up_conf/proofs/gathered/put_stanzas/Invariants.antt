use Rattle.std.proofs.Common.{◌≡◌, drop}
use Rattle.up_conf.specs.Gathering.{AreIndexed}
use Rattle.up_conf.specs.Jobs.{env_with, fold_stanzas}
use Rattle.up_conf.proofs.gathered.put_stanzas.Given as goal

-- the stanzas that are left go on with the settings so far
abbrev pub invariant-loop-stanza : goal.invariant-loop-stanza
invariant-loop-stanza l = record {
  same : fold_stanzas env_with l.settings.items (drop l.stanza-index l.stanzas) ≡ fold_stanzas env_with l.fn.settings.items l.stanzas;
  indexed : AreIndexed l.places l.settings.items;
}
