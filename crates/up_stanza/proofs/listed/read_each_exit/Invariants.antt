use Rattle.std.proofs.Common.{◌≡◌, drop}
use Rattle.up_stanza.specs.Arguments.{each}
use Rattle.up_stanza.specs.Reading.{items_before}
use Rattle.up_stanza.specs.Settings.{exit_in}
use Rattle.up_stanza.proofs.listed.read_each_exit.Given as goal

-- those so far stand before those that are left
abbrev pub invariant-loop-text : goal.invariant-loop-text
invariant-loop-text l = items_before l.exits.items (each exit_in (drop l.text-index l.texts)) ≡ each exit_in l.texts
