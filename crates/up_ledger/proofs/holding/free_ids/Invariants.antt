use Rattle.std.proofs.Common.{◌≡◌, drop, false}
use Rattle.up_ledger.specs.Holding.{freed, all_changed, as_holders}
use Rattle.up_ledger.proofs.holding.free_ids.Given as goal

-- what is left to free gives the whole
abbrev pub invariant-loop-id : goal.invariant-loop-id
invariant-loop-id l = all_changed (freed false) (as_holders (drop l.id-index l.ids)) l.events ≡ all_changed (freed false) (as_holders l.ids) l.fn.events
