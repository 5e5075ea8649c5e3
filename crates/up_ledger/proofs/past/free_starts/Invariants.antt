use Rattle.std.proofs.Common.{◌≡◌, drop, false}
use Rattle.up_ledger.specs.Holding.{freed, all_changed, all_kept, as_holders}
use Rattle.up_ledger.proofs.past.free_starts.Given as goal

-- what is left to free gives the whole
abbrev pub invariant-loop-start : goal.invariant-loop-start
invariant-loop-start l = all_changed (freed false) (as_holders (all_kept (drop l.start-index l.starts))) l.events ≡ all_changed (freed false) (as_holders (all_kept l.starts)) l.fn.events
