use Rattle.std.proofs.Common.{◌≡◌, ◌-◌, replicate}
use Rattle.up_event.specs.LiveEvents.{with_hold}
use Rattle.up_ledger.specs.Holding.{all_changed, as_holders}
use Rattle.up_ledger.proofs.holding.hold_times.Given as goal

-- what is left to hold gives the whole
abbrev pub invariant-loop-held : goal.invariant-loop-held
invariant-loop-held l = all_changed with_hold (as_holders (replicate (l.times - l.held) l.id)) l.events ≡ all_changed with_hold (as_holders (replicate l.times l.id)) l.fn.events
