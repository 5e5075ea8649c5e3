-- Which clients a round reads on.
use Rattle.std.specs.Prelude.{◌≡◌, List, None}
use Rattle.std.specs.List.{AllByRecursion}
use Rattle.up_daemon.specs.Peers.{Peer}

-- the client never broke a frame
abbrev pub IsWhole : Peer → Type 0
IsWhole peer = peer.fault ≡ None

abbrev pub AreWhole : List Peer → Type 0
AreWhole peers = AllByRecursion IsWhole peers
