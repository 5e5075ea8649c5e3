-- The numbers by which the loops of a round end fall.
use Rattle.std.proofs.Common.{◌≡◌, ◌≤◌, ◌<◌, ◌+◌, ◌++◌, ◌∷◌, [], ℕ, suc, List, length, arith, ap, inl, inr}
use Rattle.up_model.specs.Left.{spawns}
use Rattle.up_model.specs.Requests.{RequestValue}
use Rattle.up_model.specs.declared.output.Output.{Output}
use Rattle.up_model.specs.declared.request.Answer.{Answer}
use Rattle.up_model.proofs.LeftLaws.{spawns-append}
use Rattle.up_daemon.specs.Ending.{waiting_in}
use Rattle.up_daemon.specs.Peers.{Peer, asked, answered, IsEntered, IsQueued}

-- outputs are put before the orders that are left
pub fed_fewer : (after before : ℕ) (outputs orders : List Output) → after + spawns outputs ≤ before → after + spawns (outputs ++ orders) ≤ before + spawns orders
fed_fewer after before outputs orders fewer = omega (arith, fewer, spawns-append outputs orders)

waiting_append : (peers others : List Peer) → waiting_in (peers ++ others) ≡ waiting_in peers + waiting_in others
waiting_append [] others = omega arith
waiting_append (peer ∷ peers) others = omega (arith, waiting_append peers others)

-- a request that enters waits no longer
pub entered_fewer : (id : ℕ) (request : RequestValue) (old new : List Peer) → IsEntered id request old new → waiting_in new < waiting_in old
entered_fewer id request old new (before, after, peer, waiting, was, unanswered, next, is, rest) =
    let one : length peer.waiting ≡ suc (length waiting) = ap length next in
    omega (arith, ap waiting_in was, ap waiting_in is, waiting_append before (peer ∷ after), waiting_append before (asked id waiting peer ∷ after), one)

-- an answer changes nothing of the requests that wait
pub queued_same : (id : ℕ) (answer : Answer) (old new : List Peer) → IsQueued id answer old new → waiting_in new ≡ waiting_in old
queued_same id answer old new (inl (before, after, peer, was, unanswered, is)) =
    omega (arith, ap waiting_in was, ap waiting_in is, waiting_append before (peer ∷ after), waiting_append before (answered answer peer ∷ after))
queued_same id answer old new (inr same) = ap waiting_in same.0
