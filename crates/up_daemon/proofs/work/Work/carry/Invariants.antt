use Rattle.std.proofs.Common.{◌≡◌, ◌≤◌, reverse}
use Rattle.up_daemon.specs.Ending.{starts_left, ends_left, waiting_of}
use Rattle.up_daemon.specs.Working.{Carries, numbers_in}
use Rattle.up_daemon.proofs.work.Work.carry.Given as goal

abbrev pub invariant-loop-stack : goal.invariant-loop-stack
invariant-loop-stack g l = record {
  carries : Carries l.fn.self (g.H.Host.calls l.fn.host) (reverse l.fn.stack.items) l.self (g.H.Host.calls l.host) (reverse l.stack.items);
  ends : ends_left (g.H.Host.living l.host) l.self (reverse l.stack.items) ≤ ends_left (g.H.Host.living l.fn.host) l.fn.self (reverse l.fn.stack.items);
  waits : waiting_of l.self ≡ waiting_of l.fn.self;
  numbers : numbers_in l.self ≡ numbers_in l.fn.self;
}

-- each start takes one from those that may still come
abbrev pub decreases-loop-stack : goal.decreases-loop-stack
decreases-loop-stack g l = starts_left l.self (reverse l.stack.items)
