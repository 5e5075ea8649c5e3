use Rattle.std.proofs.Common.{◌≡◌, drop}
use Rattle.up_event.specs.LiveEvents.{with_hold}
use Rattle.up_ledger.specs.Holding.{all_changed}
use Rattle.up_ledger.proofs.holding.hold_all.Given as goal

-- what is left to hold gives the whole
abbrev pub invariant-loop-holder : goal.invariant-loop-holder
invariant-loop-holder l = all_changed with_hold (drop l.holder-index l.holders) l.events ≡ all_changed with_hold l.holders l.fn.events
