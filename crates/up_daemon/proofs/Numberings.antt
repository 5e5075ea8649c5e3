-- The requests of a round are numbered one after another.
use Rattle.std.proofs.Common.{◌+◌, ◌++◌, ◌∷◌, [], ℕ, List, inl, inr, refl, sym}
use Rattle.up_edge.specs.Calls.{Calls}
use Rattle.up_model.specs.Requests.{RequestValue}
use Rattle.up_model.specs.declared.input.Input.{Input}
use Rattle.up_model.specs.declared.input.Input.TheVariants as input
use Rattle.up_model.specs.declared.loaded.Loaded.{Loaded}
use Rattle.up_model.specs.Chronicle.{Chronicle}
use Rattle.up_model.specs.Configuration.{Configuration}
use Rattle.up_daemon.specs.Asking.{IsAsked}
use Rattle.up_daemon.specs.Rounds.{Reaches, Opens, Begins, HasBegun, ReadsClock, ClockFails, FindsEnd, FindsNone, PollFails, LetsIn, NobodyWaits, AcceptFails, IsFull, PassesOver, FindsNothing, FindsBytes, FindsFault, FindsLast, ReadFails, Closes, ClosesUnrecorded, HasRead, Enters, HasServed, TakesTurn, HasTurned, NothingWaits, Writes, WriteFails, Starts, StartFails, Signals, SignalFails, PassesEvent, Replies}
use Rattle.up_daemon.specs.RoundStates.{Part, DaemonState, RoundState}
use Rattle.up_daemon.specs.Numbering.{AreNumbered}

-- one input more
one_more : (first next last : ℕ) (inputs : List Input) (given : Input) → AreNumbered next (given ∷ []) last → AreNumbered first inputs next
    → AreNumbered first (inputs ++ given ∷ []) last
one_more first next last [] given one is = rw (sym is) one
one_more first next last (input.Request id asked ∷ inputs) given one are = (are.0, one_more (first + 1) next last inputs given one are.1)
one_more first next last (input.Emit event ∷ inputs) given one are = one_more first next last inputs given one are
one_more first next last (input.Spawned who process pid ∷ inputs) given one are = one_more first next last inputs given one are
one_more first next last (input.Refused who process ∷ inputs) given one are = one_more first next last inputs given one are
one_more first next last (input.Ended who process how ∷ inputs) given one are = one_more first next last inputs given one are
one_more first next last (input.Clock now ∷ inputs) given one are = one_more first next last inputs given one are
one_more first next last (input.Turn ∷ inputs) given one are = one_more first next last inputs given one are
one_more first next last (input.Load id loaded ∷ inputs) given one are = (are.0, one_more (first + 1) next last inputs given one are.1)

-- a request has its number, however it is fed
asked_one : (next : ℕ) (request : RequestValue) (given : Input) (before after : Calls Loaded) → IsAsked next request given before after
    → AreNumbered next (given ∷ []) (next + 1)
asked_one next request given before after (inl (other, is, same)) = rw is (refl, refl)
asked_one next request given before after (inr (reloads, inl (loaded, is, entry))) = rw is (refl, refl)
asked_one next request given before after (inr (reloads, inr (is, failed))) = rw is (refl, refl)

-- whatever a round did so far, its requests are numbered
pub numbered : (config : Configuration) (c : Chronicle) (start : DaemonState) (part : Part) (state : RoundState)
    → Reaches config c start part state → AreNumbered start.next state.fed state.next
numbered config c start part state Opens = refl
numbered config c start part state (Begins event later outputs was none is reaches) =
    one_more start.next was.next was.next was.fed (input.Emit event) refl (numbered config c start _ _ reaches)
numbered config c start part state (HasBegun was none reaches) = numbered config c start _ _ reaches
numbered config c start part state (ReadsClock reading outputs was is reaches) =
    one_more start.next was.next was.next was.fed (input.Clock reading) refl (numbered config c start _ _ reaches)
numbered config c start part state (ClockFails was reaches) = numbered config c start _ _ reaches
numbered config c start part state (FindsEnd who its how outputs was none is reaches) =
    one_more start.next was.next was.next was.fed (input.Ended who its how) refl (numbered config c start _ _ reaches)
numbered config c start part state (FindsNone was none reaches) = numbered config c start _ _ reaches
numbered config c start part state (PollFails was none reaches) = numbered config c start _ _ reaches
numbered config c start part state (LetsIn number was few nobody reaches) = numbered config c start _ _ reaches
numbered config c start part state (NobodyWaits was few reaches) = numbered config c start _ _ reaches
numbered config c start part state (AcceptFails was few reaches) = numbered config c start _ _ reaches
numbered config c start part state (IsFull was many reaches) = numbered config c start _ _ reaches
numbered config c start part state (PassesOver peer unread was many reaches) = numbered config c start _ _ reaches
numbered config c start part state (FindsNothing peer unread was few reaches) = numbered config c start _ _ reaches
numbered config c start part state (FindsBytes piece rest requests peer unread was few is frames reaches) = numbered config c start _ _ reaches
numbered config c start part state (FindsFault piece peer unread was few is broken reaches) = numbered config c start _ _ reaches
numbered config c start part state (FindsLast peer unread was few reaches) = numbered config c start _ _ reaches
numbered config c start part state (ReadFails peer unread was few reaches) = numbered config c start _ _ reaches
numbered config c start part state (Closes number among was reaches) = numbered config c start _ _ reaches
numbered config c start part state (ClosesUnrecorded number among was reaches) = numbered config c start _ _ reaches
numbered config c start part state (HasRead was reaches) = numbered config c start _ _ reaches
numbered config c start part state (Enters request given source clients outputs was none below entered asked is reaches) =
    one_more start.next was.next (was.next + 1) was.fed given (asked_one was.next request given was.source source asked) (numbered config c start _ _ reaches)
numbered config c start part state (HasServed was none rest reaches) = numbered config c start _ _ reaches
numbered config c start part state (TakesTurn turns outputs was none few touches is reaches) =
    one_more start.next was.next was.next was.fed input.Turn refl (numbered config c start _ _ reaches)
numbered config c start part state (HasTurned turns was none rest reaches) = numbered config c start _ _ reaches
numbered config c start part state (NothingWaits peer unwritten was none reaches) = numbered config c start _ _ reaches
numbered config c start part state (Writes count peer unwritten was some reaches) = numbered config c start _ _ reaches
numbered config c start part state (WriteFails peer unwritten was some reaches) = numbered config c start _ _ reaches
numbered config c start part state (Starts among here order pid outputs left was first is reaches) =
    one_more start.next was.next was.next was.fed (input.Spawned order.who order.process pid) refl (numbered config c start _ _ reaches)
numbered config c start part state (StartFails among here order outputs left was first is reaches) =
    one_more start.next was.next was.next was.fed (input.Refused order.who order.process) refl (numbered config c start _ _ reaches)
numbered config c start part state (Signals among here who pid signal left was first reaches) = numbered config c start _ _ reaches
numbered config c start part state (SignalFails among here who pid signal left was first reaches) = numbered config c start _ _ reaches
numbered config c start part state (PassesEvent among here event left was first reaches) = numbered config c start _ _ reaches
numbered config c start part state (Replies among here id answer left clients was first is reaches) = numbered config c start _ _ reaches
