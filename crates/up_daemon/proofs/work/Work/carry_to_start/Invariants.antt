use Rattle.std.proofs.Common.{◌≡◌, reverse, vec_len}
use Rattle.up_daemon.specs.Ending.{starts_left, waiting_of}
use Rattle.up_daemon.specs.Working.{Carries, numbers_in}
use Rattle.up_daemon.proofs.work.Work.carry_to_start.Given as goal

abbrev pub invariant-loop-order : goal.invariant-loop-order
invariant-loop-order g l = record {
  carries : Carries l.fn.self (g.H.Host.calls l.fn.host) (reverse l.fn.stack.items) l.self (g.H.Host.calls l.host) (reverse l.stack.items);
  starts : starts_left l.self (reverse l.stack.items) ≡ starts_left l.fn.self (reverse l.fn.stack.items);
  lives : g.H.Host.living l.host ≡ g.H.Host.living l.fn.host;
  waits : waiting_of l.self ≡ waiting_of l.fn.self;
  numbers : numbers_in l.self ≡ numbers_in l.fn.self;
}

-- an order is taken each time
abbrev pub decreases-loop-order : goal.decreases-loop-order
decreases-loop-order g l = vec_len l.stack
