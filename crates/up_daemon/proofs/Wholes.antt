-- No client that stays has broken a frame.
use Rattle.std.proofs.Common.{◌++◌, ◌∷◌, [], ℕ, List, refl, inl, inr}
use Rattle.up_model.specs.Requests.{RequestValue}
use Rattle.up_model.specs.declared.request.Answer.{Answer}
use Rattle.up_model.specs.Chronicle.{Chronicle}
use Rattle.up_model.specs.Configuration.{Configuration}
use Rattle.up_daemon.specs.Peers.{Peer, IsEntered, IsQueued}
use Rattle.up_daemon.specs.Rounds.{Reaches, Opens, Begins, HasBegun, ReadsClock, ClockFails, FindsEnd, FindsNone, PollFails, LetsIn, NobodyWaits, AcceptFails, IsFull, PassesOver, FindsNothing, FindsBytes, FindsFault, FindsLast, ReadFails, Closes, ClosesUnrecorded, HasRead, Enters, HasServed, TakesTurn, HasTurned, NothingWaits, Writes, WriteFails, Starts, StartFails, Signals, SignalFails, PassesEvent, Replies}
use Rattle.up_daemon.specs.RoundStates.{Part, Beginning, ReadingClock, FindingEnds, LettingIn, ReadingFrom, TakingRequests, TakingTurns, WritingTo, ClosingOf, DaemonState, RoundState}
use Rattle.up_daemon.specs.Wholeness.{IsWhole, AreWhole}

push : (peers : List Peer) (peer : Peer) → AreWhole peers → IsWhole peer → AreWhole (peers ++ peer ∷ [])
push [] peer all one = (one, tt)
push (other ∷ peers) peer all one = (all.0, push peers peer all.1 one)

-- one of them changes, and is still whole
change : (before after : List Peer) (old new : Peer) → (IsWhole old → IsWhole new) → AreWhole (before ++ old ∷ after) → AreWhole (before ++ new ∷ after)
change [] after old new keeps all = (keeps all.0, all.1)
change (other ∷ before) after old new keeps all = (all.0, change before after old new keeps all.1)

entered_whole : (id : ℕ) (request : RequestValue) (old new : List Peer) → IsEntered id request old new → AreWhole old → AreWhole new
entered_whole id request old new (before, after, peer, waiting, was, none, first, is, rest) whole =
    rw is (change before after peer _ (λ one. one) (rw was at whole))

queued_whole : (id : ℕ) (answer : Answer) (old new : List Peer) → IsQueued id answer old new → AreWhole old → AreWhole new
queued_whole id answer old new (inl (before, after, peer, was, waits, is)) whole = rw is (change before after peer _ (λ one. one) (rw was at whole))
queued_whole id answer old new (inr (same, none)) whole = rw same whole

-- those that are still to be read or written to
abbrev pub todo : Part → List Peer
todo (Beginning first) = []
todo ReadingClock = []
todo FindingEnds = []
todo LettingIn = []
todo (ReadingFrom unread) = unread
todo TakingRequests = []
todo (TakingTurns turns) = []
todo (WritingTo unwritten) = unwritten
todo (ClosingOf number part) = todo part

-- in each part of a round its clients are whole
pub whole : (config : Configuration) (c : Chronicle) (start : DaemonState) (part : Part) (state : RoundState) → AreWhole start.clients
    → Reaches config c start part state → AreWhole state.clients × AreWhole (todo part)
whole config c start part state all Opens = (all, tt)
whole config c start part state all (Begins event later outputs was none is reaches) =
    let so_far = whole config c start _ _ all reaches in
    so_far
whole config c start part state all (HasBegun was none reaches) =
    let so_far = whole config c start _ _ all reaches in
    so_far
whole config c start part state all (ReadsClock reading outputs was is reaches) =
    let so_far = whole config c start _ _ all reaches in
    so_far
whole config c start part state all (ClockFails was reaches) =
    let so_far = whole config c start _ _ all reaches in
    so_far
whole config c start part state all (FindsEnd who its how outputs was none is reaches) = whole config c start _ _ all reaches
whole config c start part state all (FindsNone was none reaches) =
    let so_far = whole config c start _ _ all reaches in
    so_far
whole config c start part state all (PollFails was none reaches) =
    let so_far = whole config c start _ _ all reaches in
    so_far
whole config c start part state all (LetsIn number was few nobody reaches) =
    let so_far = whole config c start _ _ all reaches in
    (push was.clients _ so_far.0 refl, tt)
whole config c start part state all (NobodyWaits was few reaches) =
    let so_far = whole config c start _ _ all reaches in
    (tt, so_far.0)
whole config c start part state all (AcceptFails was few reaches) =
    let so_far = whole config c start _ _ all reaches in
    (tt, so_far.0)
whole config c start part state all (IsFull was many reaches) =
    let so_far = whole config c start _ _ all reaches in
    (tt, so_far.0)
whole config c start part state all (PassesOver peer unread was many reaches) =
    let so_far = whole config c start _ _ all reaches in
    (push was.clients peer so_far.0 so_far.1.0, so_far.1.1)
whole config c start part state all (FindsNothing peer unread was few reaches) =
    let so_far = whole config c start _ _ all reaches in
    (push was.clients peer so_far.0 so_far.1.0, so_far.1.1)
whole config c start part state all (FindsBytes piece rest requests peer unread was few is frames reaches) =
    let so_far = whole config c start _ _ all reaches in
    (push was.clients _ so_far.0 refl, so_far.1.1)
whole config c start part state all (FindsFault piece peer unread was few is broken reaches) =
    let so_far = whole config c start _ _ all reaches in
    (so_far.0, so_far.1.1)
whole config c start part state all (FindsLast peer unread was few reaches) =
    let so_far = whole config c start _ _ all reaches in
    (so_far.0, so_far.1.1)
whole config c start part state all (ReadFails peer unread was few reaches) =
    let so_far = whole config c start _ _ all reaches in
    (so_far.0, so_far.1.1)
whole config c start part state all (Closes number among was reaches) = whole config c start _ _ all reaches
whole config c start part state all (ClosesUnrecorded number among was reaches) = whole config c start _ _ all reaches
whole config c start part state all (HasRead was reaches) =
    let so_far = whole config c start _ _ all reaches in
    (so_far.0, tt)
whole config c start part state all (Enters request given source clients outputs was none below entered asked is reaches) =
    let so_far = whole config c start _ _ all reaches in
    (entered_whole was.next request was.clients clients entered so_far.0, tt)
whole config c start part state all (HasServed was none rest reaches) =
    let so_far = whole config c start _ _ all reaches in
    so_far
whole config c start part state all (TakesTurn turns outputs was none few touches is reaches) =
    let so_far = whole config c start _ _ all reaches in
    so_far
whole config c start part state all (HasTurned turns was none rest reaches) =
    let so_far = whole config c start _ _ all reaches in
    (tt, so_far.0)
whole config c start part state all (NothingWaits peer unwritten was none reaches) =
    let so_far = whole config c start _ _ all reaches in
    (push was.clients peer so_far.0 so_far.1.0, so_far.1.1)
whole config c start part state all (Writes count peer unwritten was some reaches) =
    let so_far = whole config c start _ _ all reaches in
    (push was.clients _ so_far.0 so_far.1.0, so_far.1.1)
whole config c start part state all (WriteFails peer unwritten was some reaches) =
    let so_far = whole config c start _ _ all reaches in
    (so_far.0, so_far.1.1)
whole config c start part state all (Starts among here order pid outputs left was first is reaches) = whole config c start _ _ all reaches
whole config c start part state all (StartFails among here order outputs left was first is reaches) = whole config c start _ _ all reaches
whole config c start part state all (Signals among here who pid signal left was first reaches) = whole config c start _ _ all reaches
whole config c start part state all (SignalFails among here who pid signal left was first reaches) = whole config c start _ _ all reaches
whole config c start part state all (PassesEvent among here event left was first reaches) = whole config c start _ _ all reaches
whole config c start part state all (Replies among here id answer left clients was first is reaches) =
    let so_far = whole config c start _ _ all reaches in
    (queued_whole id answer was.clients clients is so_far.0, so_far.1)
