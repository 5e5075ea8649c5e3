use Rattle.std.proofs.Common.{◌≡◌, drop, is_some}
use Rattle.up_stanza.specs.Arguments.{each}
use Rattle.up_stanza.specs.Settings.{exit_in}
use Rattle.up_stanza.proofs.listed.check_exits.Given as goal

-- what was looked at is good, so that the rest decides
abbrev pub invariant-loop-text : goal.invariant-loop-text
invariant-loop-text l = is_some (each exit_in (drop l.text-index l.texts)) ≡ is_some (each exit_in l.texts)
