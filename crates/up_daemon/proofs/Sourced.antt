-- The calls of the source in a round, counted.
use Rattle.std.proofs.Common.{◌≡◌, ◌+◌, ◌++◌, ◌∷◌, [], ℕ, suc, min, List, length, refl, ap, inl, inr, arith}
use Rattle.std.proofs.lemmas.List.{length-append}
use Rattle.up_edge.specs.Calls.{Calls, most_count}
use Rattle.up_model.specs.Chronicle.{Chronicle}
use Rattle.up_model.specs.Configuration.{Configuration}
use Rattle.up_model.specs.Requests.{RequestValue}
use Rattle.up_model.specs.declared.input.Input.{Input}
use Rattle.up_model.specs.declared.input.Input.TheVariants as input
use Rattle.up_model.specs.declared.loaded.Loaded.{Loaded}
use Rattle.up_model.specs.declared.loaded.Loaded.TheVariants.{Unread}
use Rattle.up_daemon.specs.Asking.{IsAsked}
use Rattle.up_daemon.specs.Counting.{AreLoaded, faults_after}
use Rattle.up_daemon.specs.Rounds.{Reaches, ran, ran_not, Opens, Begins, HasBegun, ReadsClock, ClockFails, FindsEnd, FindsNone, PollFails, LetsIn, NobodyWaits, AcceptFails, IsFull, PassesOver, FindsNothing, FindsBytes, FindsFault, FindsLast, ReadFails, Closes, ClosesUnrecorded, HasRead, Enters, HasServed, TakesTurn, HasTurned, NothingWaits, Writes, WriteFails, Starts, StartFails, Signals, SignalFails, PassesEvent, Replies}
use Rattle.up_daemon.specs.RoundStates.{Part, DaemonState, RoundState}

-- what the source did so far, and the loads that were fed
pub record Sourced (start : DaemonState) (source : Calls Loaded) (fed : List Input) : Type 0 where
  pub made : source.made ≡ min start.source.made most_count + length source.entries
  pub missed : ℕ
  pub unread : source.faults ≡ faults_after missed start.source.faults
  pub loads : AreLoaded source.entries missed fed

-- an input more that is no load
other_more : (entries : List Loaded) (missed : ℕ) (fed : List Input) (given : Input) → AreLoaded [] 0 (given ∷ []) → AreLoaded entries missed fed
    → AreLoaded entries missed (fed ++ given ∷ [])
other_more entries missed [] given other are = rw (are.0, are.1) other
other_more entries missed (input.Load id loaded ∷ fed) given other (inl (later, is, are)) = inl (later, is, other_more later missed fed given other are)
other_more entries missed (input.Load id loaded ∷ fed) given other (inr (fewer, is, unread, are)) = inr (fewer, is, unread, other_more entries fewer fed given other are)
other_more entries missed (input.Request id request ∷ fed) given other are = other_more entries missed fed given other are
other_more entries missed (input.Emit event ∷ fed) given other are = other_more entries missed fed given other are
other_more entries missed (input.Spawned who process pid ∷ fed) given other are = other_more entries missed fed given other are
other_more entries missed (input.Refused who process ∷ fed) given other are = other_more entries missed fed given other are
other_more entries missed (input.Ended who process how ∷ fed) given other are = other_more entries missed fed given other are
other_more entries missed (input.Clock now ∷ fed) given other are = other_more entries missed fed given other are
other_more entries missed (input.Turn ∷ fed) given other are = other_more entries missed fed given other are

-- a load more of what the source gave
load_more : (entries : List Loaded) (missed : ℕ) (fed : List Input) (id : ℕ) (loaded : Loaded) → AreLoaded entries missed fed
    → AreLoaded (entries ++ loaded ∷ []) missed (fed ++ input.Load id loaded ∷ [])
load_more entries missed [] id loaded are = rw (are.0, are.1) (inl ([], refl, (refl, refl)))
load_more entries missed (input.Load other before ∷ fed) id loaded (inl (later, is, are)) =
    inl (later ++ loaded ∷ [], ap (λ those. those ++ loaded ∷ []) is, load_more later missed fed id loaded are)
load_more entries missed (input.Load other before ∷ fed) id loaded (inr (fewer, is, unread, are)) = inr (fewer, is, unread, load_more entries fewer fed id loaded are)
load_more entries missed (input.Request other request ∷ fed) id loaded are = load_more entries missed fed id loaded are
load_more entries missed (input.Emit event ∷ fed) id loaded are = load_more entries missed fed id loaded are
load_more entries missed (input.Spawned who process pid ∷ fed) id loaded are = load_more entries missed fed id loaded are
load_more entries missed (input.Refused who process ∷ fed) id loaded are = load_more entries missed fed id loaded are
load_more entries missed (input.Ended who process how ∷ fed) id loaded are = load_more entries missed fed id loaded are
load_more entries missed (input.Clock now ∷ fed) id loaded are = load_more entries missed fed id loaded are
load_more entries missed (input.Turn ∷ fed) id loaded are = load_more entries missed fed id loaded are

-- a load more of which it gave nothing
unread_more : (entries : List Loaded) (missed : ℕ) (fed : List Input) (id : ℕ) → AreLoaded entries missed fed
    → AreLoaded entries (suc missed) (fed ++ input.Load id Unread ∷ [])
unread_more entries missed [] id are = inr (missed, refl, refl, are)
unread_more entries missed (input.Load other before ∷ fed) id (inl (later, is, are)) = inl (later, is, unread_more later missed fed id are)
unread_more entries missed (input.Load other before ∷ fed) id (inr (fewer, is, unread, are)) = inr (suc fewer, ap suc is, unread, unread_more entries fewer fed id are)
unread_more entries missed (input.Request other request ∷ fed) id are = unread_more entries missed fed id are
unread_more entries missed (input.Emit event ∷ fed) id are = unread_more entries missed fed id are
unread_more entries missed (input.Spawned who process pid ∷ fed) id are = unread_more entries missed fed id are
unread_more entries missed (input.Refused who process ∷ fed) id are = unread_more entries missed fed id are
unread_more entries missed (input.Ended who process how ∷ fed) id are = unread_more entries missed fed id are
unread_more entries missed (input.Clock now ∷ fed) id are = unread_more entries missed fed id are
unread_more entries missed (input.Turn ∷ fed) id are = unread_more entries missed fed id are

feeds : (start : DaemonState) (source : Calls Loaded) (fed : List Input) (given : Input) → AreLoaded [] 0 (given ∷ []) → Sourced start source fed
    → Sourced start source (fed ++ given ∷ [])
feeds start source fed given other so_far = record {
  made = so_far.made;
  missed = so_far.missed;
  unread = so_far.unread;
  loads = other_more source.entries so_far.missed fed given other so_far.loads;
}

-- a request enters, for which the source may be called
asks : (start : DaemonState) (before after : Calls Loaded) (fed : List Input) (id : ℕ) (request : RequestValue) (given : Input)
    → IsAsked id request given before after → Sourced start before fed → Sourced start after (fed ++ given ∷ [])
asks start before after fed id request given (inl (other, is, same)) so_far = rw (is, same) (feeds start before fed (input.Request id request) (refl, refl) so_far)
asks start before after fed id request given (inr (reloads, inl (loaded, is, entry))) so_far = rw (is, entry) (record {
  made = let it = length-append before.entries (loaded ∷ []) in let was = so_far.made in omega arith;
  missed = so_far.missed;
  unread = so_far.unread;
  loads = load_more before.entries so_far.missed fed id loaded so_far.loads;
})
asks start before after fed id request given (inr (reloads, inr (is, failed))) so_far = rw (is, failed) (record {
  made = so_far.made;
  missed = suc so_far.missed;
  unread = rw so_far.unread refl;
  loads = unread_more before.entries so_far.missed fed id so_far.loads;
})

-- in each part of a round its calls are counted
pub sourced : (config : Configuration) (c : Chronicle) (start : DaemonState) (part : Part) (state : RoundState)
    → Reaches config c start part state → Sourced start state.source state.fed
sourced config c start part state Opens = record { made = omega arith; missed = 0; unread = refl; loads = (refl, refl) }
sourced config c start part state (Begins event later outputs was none is reaches) =
    let so_far = sourced config c start _ _ reaches in
    feeds start was.source was.fed (input.Emit event) (refl, refl) so_far
sourced config c start part state (HasBegun was none reaches) = sourced config c start _ _ reaches
sourced config c start part state (ReadsClock reading outputs was is reaches) =
    let so_far = sourced config c start _ _ reaches in
    feeds start was.source was.fed (input.Clock reading) (refl, refl) so_far
sourced config c start part state (ClockFails was reaches) = sourced config c start _ _ reaches
sourced config c start part state (FindsEnd who its how outputs was none is reaches) =
    let so_far = sourced config c start _ _ reaches in
    feeds start was.source was.fed (input.Ended who its how) (refl, refl) so_far
sourced config c start part state (FindsNone was none reaches) = sourced config c start _ _ reaches
sourced config c start part state (PollFails was none reaches) = sourced config c start _ _ reaches
sourced config c start part state (LetsIn number was few nobody reaches) = sourced config c start _ _ reaches
sourced config c start part state (NobodyWaits was few reaches) = sourced config c start _ _ reaches
sourced config c start part state (AcceptFails was few reaches) = sourced config c start _ _ reaches
sourced config c start part state (IsFull was many reaches) = sourced config c start _ _ reaches
sourced config c start part state (PassesOver peer unread was many reaches) = sourced config c start _ _ reaches
sourced config c start part state (FindsNothing peer unread was few reaches) = sourced config c start _ _ reaches
sourced config c start part state (FindsBytes piece rest requests peer unread was few is frames reaches) = sourced config c start _ _ reaches
sourced config c start part state (FindsFault piece peer unread was few is broken reaches) = sourced config c start _ _ reaches
sourced config c start part state (FindsLast peer unread was few reaches) = sourced config c start _ _ reaches
sourced config c start part state (ReadFails peer unread was few reaches) = sourced config c start _ _ reaches
sourced config c start part state (Closes number among was reaches) = sourced config c start _ _ reaches
sourced config c start part state (ClosesUnrecorded number among was reaches) = sourced config c start _ _ reaches
sourced config c start part state (HasRead was reaches) = sourced config c start _ _ reaches
sourced config c start part state (Enters request given source clients outputs was none below entered asked is reaches) =
    let so_far = sourced config c start _ _ reaches in
    asks start was.source source was.fed was.next request given asked so_far
sourced config c start part state (HasServed was none rest reaches) = sourced config c start _ _ reaches
sourced config c start part state (TakesTurn turns outputs was none few touches is reaches) =
    let so_far = sourced config c start _ _ reaches in
    feeds start was.source was.fed input.Turn (refl, refl) so_far
sourced config c start part state (HasTurned turns was none rest reaches) = sourced config c start _ _ reaches
sourced config c start part state (NothingWaits peer unwritten was none reaches) = sourced config c start _ _ reaches
sourced config c start part state (Writes count peer unwritten was some reaches) = sourced config c start _ _ reaches
sourced config c start part state (WriteFails peer unwritten was some reaches) = sourced config c start _ _ reaches
sourced config c start part state (Starts among here order pid outputs left was first is reaches) =
    let so_far = sourced config c start _ _ reaches in
    feeds start was.source was.fed (ran order pid) (refl, refl) so_far
sourced config c start part state (StartFails among here order outputs left was first is reaches) =
    let so_far = sourced config c start _ _ reaches in
    feeds start was.source was.fed (ran_not order) (refl, refl) so_far
sourced config c start part state (Signals among here who pid signal left was first reaches) = sourced config c start _ _ reaches
sourced config c start part state (SignalFails among here who pid signal left was first reaches) = sourced config c start _ _ reaches
sourced config c start part state (PassesEvent among here event left was first reaches) = sourced config c start _ _ reaches
sourced config c start part state (Replies among here id answer left clients was first is reaches) = sourced config c start _ _ reaches
