use Rattle.std.proofs.Common.{◌≡◌, drop}
use Rattle.up_ledger.specs.Holding.{freed, all_changed}
use Rattle.up_ledger.proofs.holding.free_all.Given as goal

-- what is left to free gives the whole
abbrev pub invariant-loop-holder : goal.invariant-loop-holder
invariant-loop-holder l = all_changed (freed l.failed) (drop l.holder-index l.holders) l.events ≡ all_changed (freed l.failed) l.holders l.fn.events
