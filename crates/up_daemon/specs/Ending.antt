-- The numbers by which the loops of a round end.
use Rattle.std.specs.Prelude.{◌+◌, ◌∷◌, ℕ, List, [], Option, None, Some, length}
use Rattle.up_engine.specs.Stands.{left_of}
use Rattle.up_model.specs.Left.{spawns}
use Rattle.up_model.specs.declared.output.Order.{Order}
use Rattle.up_model.specs.declared.output.Output.{Output}
use Rattle.up_model.specs.declared.output.Output.TheVariants.{Spawn}
use Rattle.up_daemon.specs.declared.work.Work.{Work}
use Rattle.up_daemon.specs.Peers.{Peer, peers_of}

-- how many processes may still be started before an event is waited for: those that these orders ask for, and those that the engine may
-- still order
abbrev pub starts_left : Work → List Output → ℕ
starts_left work orders = left_of work.engine + spawns orders

-- how many ends may still be found, where so many processes live: each process may have one, and so may each that is still started
abbrev pub ends_left : (living : ℕ) → Work → List Output → ℕ
ends_left living work orders = living + starts_left work orders

-- how many requests have not entered
abbrev pub waiting_in : List Peer → ℕ
waiting_in [] = 0
waiting_in (peer ∷ peers) = length peer.waiting + waiting_in peers

abbrev pub waiting_of : Work → ℕ
waiting_of work = waiting_in (peers_of work.clients.list.items)

-- a start, if there is one, before other orders
abbrev pub with_start : Option Order → List Output → List Output
with_start None orders = orders
with_start (Some order) orders = Spawn order ∷ orders
