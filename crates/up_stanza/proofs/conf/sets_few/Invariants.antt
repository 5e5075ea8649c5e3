use Rattle.std.proofs.Common.{◌≡◌, drop, nat_le}
use Rattle.up_stanza.specs.Confs.{total, keys_set}
use Rattle.up_stanza.proofs.conf.sets_few.Given as goal

-- what is left decides
abbrev pub invariant-loop-stanza : goal.invariant-loop-stanza
invariant-loop-stanza l = nat_le (total keys_set (drop l.stanza-index l.stanzas)) l.left ≡ nat_le (total keys_set l.stanzas) 30000
