use Rattle.std.proofs.Common.{◌≡◌, drop}
use Rattle.up_conf.specs.Gathering.{others_after}
use Rattle.up_conf.proofs.outline.with_stanzas.Given as goal

-- the stanzas that are left go on with the job so far
abbrev pub invariant-loop-stanza : goal.invariant-loop-stanza
invariant-loop-stanza l = others_after l.job (drop l.stanza-index l.stanzas) ≡ others_after l.initial.job l.stanzas
