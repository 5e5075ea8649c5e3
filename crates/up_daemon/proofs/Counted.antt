-- The calls of a round, counted.
use Rattle.std.proofs.Common.{◌≡◌, ◌+◌, ◌++◌, ◌∷◌, [], ℕ, suc, min, List, None, Some, length, take, refl, ap, inl, inr, arith}
use Rattle.std.proofs.lemmas.List.{length-append}
use Rattle.up_edge.specs.Calls.{Calls, most_count, with_entry, with_failure}
use Rattle.up_edge.specs.declared.happened.Happened.{Happened}
use Rattle.up_edge.specs.declared.happened.Happened.TheVariants as happened
use Rattle.up_model.specs.Chronicle.{Chronicle}
use Rattle.up_model.specs.Configuration.{Configuration}
use Rattle.up_model.specs.Requests.{RequestValue}
use Rattle.up_model.specs.declared.input.Input.{Input}
use Rattle.up_model.specs.declared.input.Input.TheVariants as input
use Rattle.up_model.specs.declared.loaded.Loaded.{Loaded}
use Rattle.up_model.specs.declared.output.Output.{Output}
use Rattle.up_model.specs.declared.output.Output.TheVariants as output
use Rattle.up_daemon.specs.Asking.{IsAsked}
use Rattle.up_daemon.specs.Counting.{orders_in, orders_given, ends_in, faults_after}
use Rattle.up_daemon.specs.Laws.{CountsCalls}
use Rattle.up_edge.specs.declared.passed.Passed.{Passed}
use Rattle.up_edge.specs.declared.passed.Passed.TheVariants as passed
use Rattle.up_daemon.specs.Rounds.{Reaches, ran, ran_not, Opens, Begins, HasBegun, ReadsClock, ClockFails, FindsEnd, FindsNone, PollFails, LetsIn, NobodyWaits, AcceptFails, IsFull, PassesOver, FindsNothing, FindsBytes, FindsFault, FindsLast, ReadFails, Closes, ClosesUnrecorded, HasRead, Enters, HasServed, TakesTurn, HasTurned, NothingWaits, Writes, WriteFails, Starts, StartFails, Signals, SignalFails, PassesEvent, Replies}
use Rattle.up_daemon.specs.RoundStates.{Part, Beginning, ReadingClock, FindingEnds, LettingIn, ReadingFrom, TakingRequests, TakingTurns, WritingTo, ClosingOf, DaemonState, RoundState}
use Rattle.up_daemon.proofs.Sourced.{sourced}

-- how many calls were made but for ends and orders
abbrev pub made_by : Part → ℕ
made_by (Beginning first) = 0
made_by ReadingClock = 0
made_by FindingEnds = 1
made_by LettingIn = 2
made_by (ReadingFrom unread) = 2
made_by TakingRequests = 2
made_by (TakingTurns turns) = 2
made_by (WritingTo unwritten) = 2
made_by (ClosingOf number part) = made_by part

pub record Counted (start : DaemonState) (due : ℕ) (host : Calls Happened) (door : Calls Passed) (fed : List Input) (gave : List (List Output))
    (left : List Output) : Type 0 where
  pub host_made : host.made ≡ min start.host.made most_count + length host.entries
  pub door_made : door.made ≡ min start.door.made most_count + length door.entries
  pub failed : ℕ
  pub faults : host.faults ≡ faults_after failed start.host.faults
  pub calls : length host.entries + failed + orders_in left ≡ due + ends_in fed + orders_given gave

orders_append : (outputs more : List Output) → orders_in (outputs ++ more) ≡ orders_in outputs + orders_in more
orders_append [] more = omega arith
orders_append (output.Spawn order ∷ outputs) more = let so_far = orders_append outputs more in omega arith
orders_append (output.Signal who pid signal ∷ outputs) more = let so_far = orders_append outputs more in omega arith
orders_append (output.Emitted event ∷ outputs) more = orders_append outputs more
orders_append (output.Reply id answer ∷ outputs) more = orders_append outputs more

orders_push : (gave : List (List Output)) (outputs : List Output) → orders_given (gave ++ outputs ∷ []) ≡ orders_given gave + orders_in outputs
orders_push [] outputs = omega arith
orders_push (those ∷ gave) outputs = let so_far = orders_push gave outputs in omega arith

ends_append : (inputs more : List Input) → ends_in (inputs ++ more) ≡ ends_in inputs + ends_in more
ends_append [] more = omega arith
ends_append (input.Ended who process how ∷ inputs) more = let so_far = ends_append inputs more in omega arith
ends_append (input.Request id request ∷ inputs) more = ends_append inputs more
ends_append (input.Emit event ∷ inputs) more = ends_append inputs more
ends_append (input.Spawned who process pid ∷ inputs) more = ends_append inputs more
ends_append (input.Refused who process ∷ inputs) more = ends_append inputs more
ends_append (input.Clock now ∷ inputs) more = ends_append inputs more
ends_append (input.Turn ∷ inputs) more = ends_append inputs more
ends_append (input.Load id loaded ∷ inputs) more = ends_append inputs more

-- a call of the host
did : (start : DaemonState) (due : ℕ) (host : Calls Happened) (door : Calls Passed) (fed : List Input) (gave : List (List Output)) (left : List Output) (entry : Happened)
    → Counted start due host door fed gave left → Counted start (due + 1) (with_entry entry host) door fed gave left
did start due host door fed gave left entry so_far = record {
  host_made = let it = length-append host.entries (entry ∷ []) in let was = so_far.host_made in omega arith;
  door_made = so_far.door_made;
  failed = so_far.failed;
  faults = so_far.faults;
  calls = let it = length-append host.entries (entry ∷ []) in let was = so_far.calls in omega arith;
}

failed : (start : DaemonState) (due : ℕ) (host : Calls Happened) (door : Calls Passed) (fed : List Input) (gave : List (List Output)) (left : List Output)
    → Counted start due host door fed gave left → Counted start (due + 1) (with_failure host) door fed gave left
failed start due host door fed gave left so_far = record {
  host_made = so_far.host_made;
  door_made = so_far.door_made;
  failed = suc so_far.failed;
  faults = rw so_far.faults refl;
  calls = let was = so_far.calls in omega arith;
}

-- a call of the door
passed_it : (start : DaemonState) (due : ℕ) (host : Calls Happened) (door : Calls Passed) (fed : List Input) (gave : List (List Output)) (left : List Output) (entry : Passed)
    → Counted start due host door fed gave left → Counted start due host (with_entry entry door) fed gave left
passed_it start due host door fed gave left entry so_far = record {
  host_made = so_far.host_made;
  door_made = let it = length-append door.entries (entry ∷ []) in let was = so_far.door_made in omega arith;
  failed = so_far.failed;
  faults = so_far.faults;
  calls = so_far.calls;
}

-- a call of the door that fails
door_failed : (start : DaemonState) (due : ℕ) (host : Calls Happened) (door : Calls Passed) (fed : List Input) (gave : List (List Output)) (left : List Output)
    → Counted start due host door fed gave left → Counted start due host (with_failure door) fed gave left
door_failed start due host door fed gave left so_far = record {
  host_made = so_far.host_made;
  door_made = so_far.door_made;
  failed = so_far.failed;
  faults = so_far.faults;
  calls = so_far.calls;
}

plus_none : (n : ℕ) → n ≡ n + 0
plus_none n = omega arith

-- an input is fed: an end was found by a call
feeds : (start : DaemonState) (due all : ℕ) (host : Calls Happened) (door : Calls Passed) (fed : List Input) (gave : List (List Output)) (left : List Output) (given : Input) (outputs : List Output)
    → all ≡ due + ends_in (given ∷ [])
    → Counted start all host door fed gave left → Counted start due host door (fed ++ given ∷ []) (gave ++ outputs ∷ []) (outputs ++ left)
feeds start due all host door fed gave left given outputs is so_far = record {
  host_made = so_far.host_made;
  door_made = so_far.door_made;
  failed = so_far.failed;
  faults = so_far.faults;
  calls = let ends_now = ends_append fed (given ∷ []) in let given_now = orders_push gave outputs in let left_now = orders_append outputs left in let was = so_far.calls in omega arith;
}

-- an order is carried out by a call, or was none for the host
carried : (start : DaemonState) (due : ℕ) (host : Calls Happened) (door : Calls Passed) (fed : List Input) (gave : List (List Output)) (left rest : List Output)
    → orders_in left ≡ suc (orders_in rest)
    → Counted start (due + 1) host door fed gave left → Counted start due host door fed gave rest
carried start due host door fed gave left rest one so_far = record {
  host_made = so_far.host_made;
  door_made = so_far.door_made;
  failed = so_far.failed;
  faults = so_far.faults;
  calls = let was = so_far.calls in omega arith;
}

passes : (start : DaemonState) (due : ℕ) (host : Calls Happened) (door : Calls Passed) (fed : List Input) (gave : List (List Output)) (left rest : List Output)
    → orders_in left ≡ orders_in rest
    → Counted start due host door fed gave left → Counted start due host door fed gave rest
passes start due host door fed gave left rest none so_far = record {
  host_made = so_far.host_made;
  door_made = so_far.door_made;
  failed = so_far.failed;
  faults = so_far.faults;
  calls = let was = so_far.calls in omega arith;
}

-- a request is no end, however it is fed
no_end : (next : ℕ) (request : RequestValue) (given : Input) (before after : Calls Loaded) → IsAsked next request given before after
    → 2 ≡ 2 + ends_in (given ∷ [])
no_end next request given before after (inl (other, is, same)) = rw is refl
no_end next request given before after (inr (reloads, inl (loaded, is, entry))) = rw is refl
no_end next request given before after (inr (reloads, inr (is, failed))) = rw is refl

-- in each part of a round its calls are counted
pub counted : (config : Configuration) (c : Chronicle) (start : DaemonState) (part : Part) (state : RoundState)
    → Reaches config c start part state → Counted start (made_by part) state.host state.door state.fed state.gave state.left
counted config c start part state Opens = record { host_made = omega arith; door_made = omega arith; failed = 0; faults = refl; calls = omega arith }
counted config c start part state (Begins event later outputs was none is reaches) =
    let so_far = counted config c start _ _ reaches in
    feeds start 0 0 was.host was.door was.fed was.gave was.left (input.Emit event) outputs refl so_far
counted config c start part state (HasBegun was none reaches) =
    let so_far = counted config c start _ _ reaches in
    so_far
counted config c start part state (ReadsClock reading outputs was is reaches) =
    let so_far = counted config c start _ _ reaches in
    feeds start 1 _ _ was.door was.fed was.gave was.left (input.Clock reading) outputs refl (did start 0 was.host was.door was.fed was.gave was.left (happened.Now reading) so_far)
counted config c start part state (ClockFails was reaches) =
    let so_far = counted config c start _ _ reaches in
    failed start 0 was.host was.door was.fed was.gave was.left so_far
counted config c start part state (FindsEnd who its how outputs was none is reaches) =
    let so_far = counted config c start _ _ reaches in
    feeds start 1 _ _ was.door was.fed was.gave was.left (input.Ended who its how) outputs refl (did start 1 was.host was.door was.fed was.gave was.left (happened.Polled (Some (who, its, how))) so_far)
counted config c start part state (FindsNone was none reaches) =
    let so_far = counted config c start _ _ reaches in
    did start 1 was.host was.door was.fed was.gave was.left (happened.Polled None) so_far
counted config c start part state (PollFails was none reaches) =
    let so_far = counted config c start _ _ reaches in
    failed start 1 was.host was.door was.fed was.gave was.left so_far
counted config c start part state (LetsIn number was few nobody reaches) =
    let so_far = counted config c start _ _ reaches in
    passed_it start 2 was.host was.door was.fed was.gave was.left (passed.Accepted (Some number)) so_far
counted config c start part state (NobodyWaits was few reaches) =
    let so_far = counted config c start _ _ reaches in
    passed_it start 2 was.host was.door was.fed was.gave was.left (passed.Accepted None) so_far
counted config c start part state (AcceptFails was few reaches) =
    let so_far = counted config c start _ _ reaches in
    door_failed start 2 was.host was.door was.fed was.gave was.left so_far
counted config c start part state (IsFull was many reaches) =
    let so_far = counted config c start _ _ reaches in
    so_far
counted config c start part state (PassesOver peer unread was many reaches) =
    let so_far = counted config c start _ _ reaches in
    so_far
counted config c start part state (FindsNothing peer unread was few reaches) =
    let so_far = counted config c start _ _ reaches in
    passed_it start 2 was.host was.door was.fed was.gave was.left (passed.Read peer.number None) so_far
counted config c start part state (FindsBytes piece rest requests peer unread was few is frames reaches) =
    let so_far = counted config c start _ _ reaches in
    passed_it start 2 was.host was.door was.fed was.gave was.left (passed.Read peer.number (Some piece)) so_far
counted config c start part state (FindsFault piece peer unread was few is broken reaches) =
    let so_far = counted config c start _ _ reaches in
    passed_it start 2 was.host was.door was.fed was.gave was.left (passed.Read peer.number (Some piece)) so_far
counted config c start part state (FindsLast peer unread was few reaches) =
    let so_far = counted config c start _ _ reaches in
    passed_it start 2 was.host was.door was.fed was.gave was.left (passed.Read peer.number (Some [])) so_far
counted config c start part state (ReadFails peer unread was few reaches) =
    let so_far = counted config c start _ _ reaches in
    door_failed start 2 was.host was.door was.fed was.gave was.left so_far
counted config c start part state (Closes number among was reaches) =
    let so_far = counted config c start _ _ reaches in
    passed_it start (made_by among) was.host was.door was.fed was.gave was.left (passed.Closed number) so_far
counted config c start part state (ClosesUnrecorded number among was reaches) =
    let so_far = counted config c start _ _ reaches in
    door_failed start (made_by among) was.host was.door was.fed was.gave was.left so_far
counted config c start part state (HasRead was reaches) =
    let so_far = counted config c start _ _ reaches in
    so_far
counted config c start part state (Enters request given source clients outputs was none below entered asked is reaches) =
    let so_far = counted config c start _ _ reaches in
    feeds start 2 _ was.host was.door was.fed was.gave was.left given outputs (no_end was.next request given was.source source asked) so_far
counted config c start part state (HasServed was none rest reaches) =
    let so_far = counted config c start _ _ reaches in
    so_far
counted config c start part state (TakesTurn turns outputs was none few touches is reaches) =
    let so_far = counted config c start _ _ reaches in
    feeds start 2 _ was.host was.door was.fed was.gave was.left input.Turn outputs refl so_far
counted config c start part state (HasTurned turns was none rest reaches) =
    let so_far = counted config c start _ _ reaches in
    so_far
counted config c start part state (NothingWaits peer unwritten was none reaches) =
    let so_far = counted config c start _ _ reaches in
    so_far
counted config c start part state (Writes count peer unwritten was some reaches) =
    let so_far = counted config c start _ _ reaches in
    passed_it start 2 was.host was.door was.fed was.gave was.left (passed.Wrote peer.number (take count peer.answers)) so_far
counted config c start part state (WriteFails peer unwritten was some reaches) =
    let so_far = counted config c start _ _ reaches in
    door_failed start 2 was.host was.door was.fed was.gave was.left so_far
counted config c start part state (Starts among here order pid outputs left was first is reaches) =
    let so_far = counted config c start _ _ reaches in
    feeds start (made_by among) _ _ was.door was.fed was.gave left (ran order pid) outputs (plus_none (made_by among))
    (carried start (made_by among) _ was.door was.fed was.gave was.left left (ap orders_in first) (did start (made_by among) was.host was.door was.fed was.gave was.left (happened.Spawned order pid) so_far))
counted config c start part state (StartFails among here order outputs left was first is reaches) =
    let so_far = counted config c start _ _ reaches in
    feeds start (made_by among) _ _ was.door was.fed was.gave left (ran_not order) outputs (plus_none (made_by among))
    (carried start (made_by among) _ was.door was.fed was.gave was.left left (ap orders_in first) (failed start (made_by among) was.host was.door was.fed was.gave was.left so_far))
counted config c start part state (Signals among here who pid signal left was first reaches) =
    let so_far = counted config c start _ _ reaches in
    carried start (made_by among) _ was.door was.fed was.gave was.left left (ap orders_in first) (did start (made_by among) was.host was.door was.fed was.gave was.left (happened.Signalled who pid signal) so_far)
counted config c start part state (SignalFails among here who pid signal left was first reaches) =
    let so_far = counted config c start _ _ reaches in
    carried start (made_by among) _ was.door was.fed was.gave was.left left (ap orders_in first) (failed start (made_by among) was.host was.door was.fed was.gave was.left so_far)
counted config c start part state (PassesEvent among here event left was first reaches) =
    let so_far = counted config c start _ _ reaches in
    passes start (made_by among) was.host was.door was.fed was.gave was.left left (ap orders_in first) so_far
counted config c start part state (Replies among here id answer left clients was first is reaches) =
    let so_far = counted config c start _ _ reaches in
    passes start (made_by among) was.host was.door was.fed was.gave was.left left (ap orders_in first) so_far

pub counts_calls : CountsCalls
counts_calls config c start fed gave end round =
    let all = counted config c start _ _ round in
    let its_source = sourced config c start _ _ round in
    record {
      host_made = all.host_made;
      door_made = all.door_made;
      source_made = its_source.made;
      failed = all.failed;
      faults = all.faults;
      calls = let it = all.calls in omega arith;
      missed = its_source.missed;
      unread = its_source.unread;
      loads = its_source.loads;
    }
