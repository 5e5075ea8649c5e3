use Rattle.std.proofs.Common.{◌≡◌, take}
use Rattle.std.specs.List.{AllByRecursion}
use Rattle.up_daemon.specs.Peers.{peers_of, IsAtRest}
use Rattle.up_daemon.proofs.clients.Clients.enter.Given as goal

abbrev pub invariant-loop-index : goal.invariant-loop-index
invariant-loop-index l = record {
  same : l.self.list.items ≡ l.fn.self.list.items;
  rest : AllByRecursion IsAtRest (peers_of (take l.index l.fn.self.list.items));
}
