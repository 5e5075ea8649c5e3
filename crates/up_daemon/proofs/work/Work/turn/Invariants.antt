use Rattle.std.proofs.Common.{◌≡◌}
use Rattle.up_daemon.specs.RoundStates.{TakingTurns}
use Rattle.up_daemon.specs.Working.{Goes, numbers_in}
use Rattle.up_daemon.proofs.work.Work.turn.Given as goal

abbrev pub invariant-loop-turn : goal.invariant-loop-turn
invariant-loop-turn g l = record {
  goes : Goes (TakingTurns 0) l.fn.self (g.H.Host.calls l.fn.host) (TakingTurns l.turn) l.self (g.H.Host.calls l.host);
  numbers : numbers_in l.self ≡ numbers_in l.fn.self;
}
