use Rattle.std.proofs.Common.{◌≡◌, []}
use Rattle.up_daemon.specs.Ending.{ends_left}
use Rattle.up_daemon.specs.RoundStates.{FindingEnds}
use Rattle.up_daemon.specs.Working.{Goes, numbers_in}
use Rattle.up_daemon.proofs.work.Work.find_ends.Given as goal

abbrev pub invariant-loop : goal.invariant-loop
invariant-loop g l = record {
  goes : Goes FindingEnds l.fn.self (g.H.Host.calls l.fn.host) FindingEnds l.self (g.H.Host.calls l.host);
  numbers : numbers_in l.self ≡ numbers_in l.fn.self;
}

-- each end takes one from those that may still be found
abbrev pub decreases-loop : goal.decreases-loop
decreases-loop g l = ends_left (g.H.Host.living l.host) l.self []
