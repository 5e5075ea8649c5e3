use Rattle.std.proofs.Common.{◌≡◌, take}
use Rattle.up_ledger.specs.Holding.{as_holders}
use Rattle.up_ledger.proofs.holders.of_events.Given as goal

abbrev pub invariant-loop-id : goal.invariant-loop-id
invariant-loop-id l = l.its.items ≡ as_holders (take l.id-index l.ids)
