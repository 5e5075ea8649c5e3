use Rattle.std.proofs.Common.{◌≡◌, []}
use Rattle.up_edge.specs.Calls.{Calls}
use Rattle.up_edge.specs.declared.passed.Passed.{Passed}
use Rattle.up_daemon.specs.Ending.{waiting_of}
use Rattle.up_daemon.specs.RoundStates.{TakingRequests}
use Rattle.up_daemon.specs.Working.{Leads, state_of, numbers_in}
use Rattle.up_daemon.proofs.work.Work.serve.Given as goal

abbrev pub invariant-loop : goal.invariant-loop
invariant-loop g l = record {
  goes : (door : Calls Passed) → Leads TakingRequests l.fn.self.engine
      (state_of l.fn.self (g.H.Host.calls l.fn.host) door (g.S.Source.calls l.fn.source) []) TakingRequests
      l.self.engine (state_of l.self (g.H.Host.calls l.host) door (g.S.Source.calls l.source) []);
  numbers : numbers_in l.self ≡ numbers_in l.fn.self;
}

-- each request that enters waits no longer
abbrev pub decreases-loop : goal.decreases-loop
decreases-loop g l = waiting_of l.self
