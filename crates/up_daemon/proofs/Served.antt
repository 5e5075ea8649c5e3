-- In each part of a round its clients are served.
use Rattle.std.proofs.Common.{◌≡◌, sym, ◌∙◌, ◌++◌, ◌∷◌, ◌+◌, [], ℕ, List, Option, None, Some, refl, ap, inl, inr, arith, take, drop}
use Rattle.std.specs.Prelude.{⊤, ◌≢◌}
use Rattle.std.specs.List.{AllByRecursion}
use Rattle.std.proofs.lemmas.List.{append-nil}
use Rattle.std.proofs.lemmas.Option.{none-some}
use Rattle.up_edge.specs.Calls.{Calls}
use Rattle.up_model.specs.Chronicle.{Chronicle}
use Rattle.up_model.specs.Configuration.{Configuration}
use Rattle.up_model.specs.Requests.{RequestValue}
use Rattle.up_model.specs.declared.input.Input.{Input}
use Rattle.up_model.specs.declared.input.Input.TheVariants as input
use Rattle.up_model.specs.declared.loaded.Loaded.{Loaded}
use Rattle.up_model.specs.declared.output.Output.{Output}
use Rattle.up_model.specs.declared.output.Output.TheVariants as output
use Rattle.up_model.specs.declared.request.Answer.{Answer}
use Rattle.up_model.specs.Values.{Bytes}
use Rattle.up_wire.specs.Frames.{Frames}
use Rattle.up_daemon.specs.Asking.{IsAsked}
use Rattle.up_daemon.specs.Peers.{Peer, newcomer, heard, asked, answered, IsEntered, IsQueued, IsNobody}
use Rattle.up_edge.specs.declared.passed.Passed.{Passed}
use Rattle.up_edge.specs.declared.passed.Passed.TheVariants as passed
use Rattle.up_daemon.specs.Exchanges.{Exchange, Asked, Replied, open_after, frames_for, written_to, weight, weight_given, weight_replied, requests_in, requests_of, IsFedAs, AreFedAs, asked_by, IsQuiet, IsHeard, HearsNothing, HearsOther, Apart, AreApart, IsBelow, IsNumbered, IsAmong}
use Rattle.up_daemon.specs.Laws.{IsServed, IsJust}
use Rattle.up_daemon.specs.Rounds.{IsRound, Reaches, Opens, Begins, HasBegun, ReadsClock, ClockFails, FindsEnd, FindsNone, PollFails, LetsIn, NobodyWaits, AcceptFails, IsFull, PassesOver, FindsNothing, FindsBytes, FindsFault, FindsLast, ReadFails, Closes, ClosesUnrecorded, HasRead, Enters, HasServed, TakesTurn, HasTurned, NothingWaits, Writes, WriteFails, Starts, StartFails, Signals, SignalFails, PassesEvent, Replies}
use Rattle.up_daemon.specs.RoundStates.{Part, Beginning, ReadingClock, FindingEnds, LettingIn, ReadingFrom, TakingRequests, TakingTurns, WritingTo, ClosingOf, HasOrders, DaemonState, RoundState, HasItsClients}
use Rattle.up_daemon.proofs.Changes.{all_push, all_each, all_both, all_drop, apart_drop, all_change, all_put, apart_change, apart_push, all_init, apart_at, regroup}
use Rattle.up_daemon.proofs.Servings.{silent, silent_served, other_written, self_written, other_asked, self_asked, other_replied, self_replied, self_heard, weight_append, weight_push}

-- all clients of a part: those that are done with, and those that aren't
abbrev pub all : List Peer → Part → List Peer
all clients (Beginning first) = clients
all clients ReadingClock = clients
all clients FindingEnds = clients
all clients LettingIn = clients
all clients (ReadingFrom unread) = clients ++ unread
all clients TakingRequests = clients
all clients (TakingTurns turns) = clients
all clients (WritingTo unwritten) = clients ++ unwritten
all clients (ClosingOf number part) = all clients part

all_here : (clients : List Peer) (part : Part) → HasOrders part → all clients part ≡ clients
all_here clients (Beginning first) here = refl
all_here clients ReadingClock here = absurd here
all_here clients FindingEnds here = refl
all_here clients LettingIn here = absurd here
all_here clients (ReadingFrom unread) here = absurd here
all_here clients TakingRequests here = refl
all_here clients (TakingTurns turns) here = refl
all_here clients (WritingTo unwritten) here = absurd here
all_here clients (ClosingOf number part) here = absurd here

-- clients are still let in, or are to be
abbrev pub IsEarly : Part → Type 0
IsEarly (Beginning first) = ⊤
IsEarly ReadingClock = ⊤
IsEarly FindingEnds = ⊤
IsEarly LettingIn = ⊤
IsEarly (ReadingFrom unread) = ⊥
IsEarly TakingRequests = ⊥
IsEarly (TakingTurns turns) = ⊥
IsEarly (WritingTo unwritten) = ⊥
IsEarly (ClosingOf number part) = IsEarly part

abbrev pub IsFresh : List Exchange → List Passed → Type 0
IsFresh exchanges door = (n : ℕ) → (written_to n door ≡ []) × (open_after n None exchanges ≡ None) × (frames_for n None exchanges ≡ [])
    × (asked_by n exchanges ≡ []) × ((rest : Bytes) → IsHeard n rest door [] rest)

pub record Log : Type 0 where
  pub fed : List Input
  pub gave : List (List Output)

abbrev pub log_of : RoundState → Log
log_of state = record { fed = state.fed; gave = state.gave }

requests_append : (inputs : List Input) (given : Input) → requests_in (inputs ++ given ∷ []) ≡ requests_in inputs ++ requests_in (given ∷ [])
requests_append [] given = refl
requests_append (input.Request id request ∷ inputs) given = ap (λ those. input.Request id request ∷ those) (requests_append inputs given)
requests_append (input.Emit event ∷ inputs) given = requests_append inputs given
requests_append (input.Spawned who process pid ∷ inputs) given = requests_append inputs given
requests_append (input.Refused who process ∷ inputs) given = requests_append inputs given
requests_append (input.Ended who process how ∷ inputs) given = requests_append inputs given
requests_append (input.Clock now ∷ inputs) given = requests_append inputs given
requests_append (input.Turn ∷ inputs) given = requests_append inputs given
requests_append (input.Load id loaded ∷ inputs) given = ap (λ those. input.Load id loaded ∷ those) (requests_append inputs given)

-- one request more
fed_push : (requests : List (ℕ × RequestValue)) (inputs : List Input) (one : ℕ × RequestValue) (given : Input) → AreFedAs requests inputs → IsFedAs one given
    → AreFedAs (requests ++ one ∷ []) (inputs ++ given ∷ [])
fed_push [] [] one given are is = (is, tt)
fed_push [] (other ∷ inputs) one given are is = absurd are
fed_push (first ∷ requests) [] one given are is = absurd are
fed_push (first ∷ requests) (other ∷ inputs) one given are is = (are.0, fed_push requests inputs one given are.1 is)

-- a request is fed as it is, or as a load
fed_as : (next : ℕ) (request : RequestValue) (given : Input) (before after : Calls Loaded) → IsAsked next request given before after
    → IsFedAs (next, request) given × (requests_in (given ∷ []) ≡ given ∷ [])
fed_as next request given before after (inl (other, is, same)) = rw is ((refl, refl, other), refl)
fed_as next request given before after (inr (reloads, inl (loaded, is, entry))) = rw is ((refl, reloads), refl)
fed_as next request given before after (inr (reloads, inr (is, failed))) = rw is ((refl, reloads), refl)

pub record Stand (start : DaemonState) (early : Type 0) (clients : List Peer) (next : ℕ) (log : Log) (left : List Output) (door : List Passed) : Type 0 where
  pub exchanges : List Exchange
  pub asked : AreFedAs (requests_of exchanges) (requests_in log.fed)
  pub replied : (w : ℕ → Answer → ℕ) → weight_replied w exchanges + weight w left ≡ weight_given w log.gave
  pub served : AllByRecursion (IsServed start.clients exchanges door) clients
  pub apart : AreApart clients
  pub below : AllByRecursion (IsBelow next) clients
  pub since : early → (n : ℕ) → IsNobody n clients → IsNobody n start.clients
  pub fresh : early → IsFresh exchanges door

served_first : (clients peers : List Peer) → ((peer : Peer) → IsAmong peer peers → IsAmong peer clients) → AllByRecursion (IsServed clients [] []) peers
served_first clients [] among = tt
served_first clients (peer ∷ peers) among = (
  record { before = peer; from = inl (among peer (inl refl)); same = refl; unanswered = refl; bytes = sym (append-nil peer.answers); heard = []; pieces = HearsNothing; requests = append-nil peer.waiting },
  served_first clients peers (λ other is. among other (inr is)),
)

begins : (start : DaemonState) → IsNumbered start.clients start.next → Stand start ⊤ start.clients start.next (record { fed = []; gave = [] }) [] []
begins start numbered = record {
  exchanges = [];
  asked = tt;
  replied = λ w. omega arith;
  served = served_first start.clients start.clients (λ peer is. is);
  apart = numbered.apart;
  below = numbered.below;
  since = λ early n nobody. nobody;
  fresh = λ early n. (refl, refl, refl, refl, λ rest. HearsNothing);
}

-- an input is fed
gives : (start : DaemonState) (early : Type 0) (clients : List Peer) (next : ℕ) (log : Log) (left : List Output) (door : List Passed) (outputs : List Output)
    → Stand start early clients next log left door → Stand start early clients next (record log { gave = log.gave ++ outputs ∷ [] }) (outputs ++ left) door
gives start early clients next log left door outputs s = record {
  exchanges = s.exchanges;
  asked = s.asked;
  replied = λ w. let so_far = s.replied w in let more = weight_append w outputs left in let pushed = weight_push w log.gave outputs in omega arith;
  served = s.served;
  apart = s.apart;
  below = s.below;
  since = s.since;
  fresh = s.fresh;
}

feeds : (start : DaemonState) (early : Type 0) (clients : List Peer) (next : ℕ) (log : Log) (left : List Output) (door : List Passed) (given : Input)
    → requests_in (given ∷ []) ≡ [] → Stand start early clients next log left door → Stand start early clients next (record log { fed = log.fed ++ given ∷ [] }) left door
feeds start early clients next log left door given none s = record {
  exchanges = s.exchanges;
  asked = rw (requests_append log.fed given, none, append-nil (requests_in log.fed)) s.asked;
  replied = s.replied;
  served = s.served;
  apart = s.apart;
  below = s.below;
  since = s.since;
  fresh = s.fresh;
}

-- an order that is no reply is done with
skips : (start : DaemonState) (early : Type 0) (clients : List Peer) (next : ℕ) (log : Log) (left rest : List Output) (door : List Passed) (order : Output)
    → left ≡ order ∷ rest → ((w : ℕ → Answer → ℕ) → weight w (order ∷ rest) ≡ weight w rest)
    → Stand start early clients next log left door → Stand start early clients next log rest door
skips start early clients next log left rest door order is none s = record {
  exchanges = s.exchanges;
  asked = s.asked;
  replied = λ w. ap (λ n. weight_replied w s.exchanges + n) (sym (ap (weight w) is ∙ none w)) ∙ s.replied w;
  served = s.served;
  apart = s.apart;
  below = s.below;
  since = s.since;
  fresh = s.fresh;
}

-- the next part, with other clients the same as before
moves : (start : DaemonState) (early early_after : Type 0) (clients clients_after : List Peer) (next : ℕ) (log : Log) (left : List Output) (door : List Passed)
    → (early_after → early) → clients_after ≡ clients
    → Stand start early clients next log left door → Stand start early_after clients_after next log left door
moves start early early_after clients clients_after next log left door sooner same s = record {
  exchanges = s.exchanges;
  asked = s.asked;
  replied = s.replied;
  served = rw same s.served;
  apart = rw same s.apart;
  below = rw same s.below;
  since = rw same (λ it. s.since (sooner it));
  fresh = λ it. s.fresh (sooner it);
}

-- a call of the door that is no write
tells : (start : DaemonState) (early : Type 0) (clients : List Peer) (next : ℕ) (log : Log) (left : List Output) (door : List Passed) (entry : Passed)
    → ((n : ℕ) → written_to n (entry ∷ []) ≡ []) → ((n : ℕ) → IsQuiet n entry)
    → Stand start early clients next log left door → Stand start early clients next log left (door ++ entry ∷ [])
tells start early clients next log left door entry none quiet s = record {
  exchanges = s.exchanges;
  asked = s.asked;
  replied = s.replied;
  served = all_each (IsServed start.clients s.exchanges door) (IsServed start.clients s.exchanges (door ++ entry ∷ [])) clients (λ peer was. silent_served start.clients s.exchanges door entry peer (none peer.number) (quiet peer.number) was) s.served;
  apart = s.apart;
  below = s.below;
  since = s.since;
  fresh = λ it n. (silent n door entry (none n) ∙ (s.fresh it n).0, (s.fresh it n).1, (s.fresh it n).2, (s.fresh it n).3, λ rest. HearsOther door [] rest entry (quiet n) ((s.fresh it n).4 rest));
}

-- one is closed
drops : (start : DaemonState) (early : Type 0) (before : List Peer) (peer : Peer) (after : List Peer) (next : ℕ) (log : Log) (left : List Output) (door : List Passed)
    → (early → ⊥) → Stand start early (before ++ peer ∷ after) next log left door → Stand start early (before ++ after) next log left door
drops start early before peer after next log left door late s = record {
  exchanges = s.exchanges;
  asked = s.asked;
  replied = s.replied;
  served = all_drop (IsServed start.clients s.exchanges door) before peer after s.served;
  apart = apart_drop before peer after s.apart;
  below = all_drop (IsBelow next) before peer after s.below;
  since = λ it. absurd (late it);
  fresh = s.fresh;
}

-- one comes
comes : (start : DaemonState) (early : Type 0) (clients : List Peer) (next : ℕ) (log : Log) (left : List Output) (door : List Passed) (number : ℕ)
    → early → IsNobody number clients
    → Stand start early clients next log left door → Stand start early (clients ++ newcomer number ∷ []) next log left door
comes start early clients next log left door number early_now nobody s = record {
  exchanges = s.exchanges;
  asked = s.asked;
  replied = s.replied;
  served = all_push (IsServed start.clients s.exchanges door) clients (newcomer number) s.served (record {
    before = newcomer number;
    from = inr (refl, s.since early_now number nobody);
    same = refl;
    unanswered = sym (s.fresh early_now number).1;
    bytes = ap (λ bytes. bytes ++ []) (s.fresh early_now number).0 ∙ sym (s.fresh early_now number).2;
    heard = [];
    pieces = (s.fresh early_now number).4 [];
    requests = ap (λ those. those ++ []) (sym (s.fresh early_now number).3);
  });
  apart = apart_push clients (newcomer number) (all_each (λ peer. number ≢ peer.number) (λ peer. Apart peer (newcomer number)) clients
      (λ peer not. record { numbers = λ is. not (sym is); requests = λ id is none. absurd (none-some id none) }) nobody) s.apart;
  below = all_push (IsBelow next) clients (newcomer number) s.below (λ id none. absurd (none-some id none));
  since = λ it n nobody_now. s.since it n (all_init (λ q. n ≢ q.number) clients (newcomer number) nobody_now);
  fresh = s.fresh;
}

-- bytes are read from one
hears : (start : DaemonState) (early : Type 0) (before : List Peer) (peer : Peer) (after : List Peer) (next : ℕ) (log : Log) (left : List Output) (door : List Passed)
    (piece rest : Bytes) (requests : List RequestValue) → (early → ⊥) → Frames (peer.rest ++ piece) requests rest
    → Stand start early (before ++ peer ∷ after) next log left door
    → Stand start early (before ++ heard requests rest peer ∷ after) next log left (door ++ passed.Read peer.number (Some piece) ∷ [])
hears start early before peer after next log left door piece rest requests late frames s = record {
  exchanges = s.exchanges;
  asked = s.asked;
  replied = s.replied;
  served = all_change (IsServed start.clients s.exchanges door) (IsServed start.clients s.exchanges (door ++ passed.Read peer.number (Some piece) ∷ [])) before peer (heard requests rest peer) after
      (λ q apart was. silent_served start.clients s.exchanges door (passed.Read peer.number (Some piece)) q refl apart.numbers was)
      (λ was. self_heard start.clients s.exchanges door piece rest requests peer frames was) s.apart s.served;
  apart = apart_change (IsBelow next) before peer (heard requests rest peer) after (λ q below_q was. record { numbers = was.numbers; requests = was.requests }) s.below s.apart;
  below = all_put (IsBelow next) before peer (heard requests rest peer) after (λ was. was) s.below;
  since = λ it. absurd (late it);
  fresh = λ it. absurd (late it);
}

-- bytes are read from one who is closed
breaks : (start : DaemonState) (early : Type 0) (before : List Peer) (peer : Peer) (after : List Peer) (next : ℕ) (log : Log) (left : List Output) (door : List Passed)
    (piece : Bytes) → (early → ⊥)
    → Stand start early (before ++ peer ∷ after) next log left door
    → Stand start early (before ++ after) next log left (door ++ passed.Read peer.number (Some piece) ∷ [])
breaks start early before peer after next log left door piece late s = record {
  exchanges = s.exchanges;
  asked = s.asked;
  replied = s.replied;
  served = all_both (Apart peer) (IsServed start.clients s.exchanges door) (IsServed start.clients s.exchanges (door ++ passed.Read peer.number (Some piece) ∷ [])) (before ++ after)
      (λ q apart was. silent_served start.clients s.exchanges door (passed.Read peer.number (Some piece)) q refl apart.numbers was)
      (apart_at before peer after s.apart) (all_drop (IsServed start.clients s.exchanges door) before peer after s.served);
  apart = apart_drop before peer after s.apart;
  below = all_drop (IsBelow next) before peer after s.below;
  since = λ it. absurd (late it);
  fresh = λ it. absurd (late it);
}

-- one is written to
writes : (start : DaemonState) (early : Type 0) (before : List Peer) (peer : Peer) (after : List Peer) (next : ℕ) (log : Log) (left : List Output) (door : List Passed) (count : ℕ)
    → (early → ⊥)
    → Stand start early (before ++ peer ∷ after) next log left door
    → Stand start early (before ++ (record peer { answers = drop count peer.answers }) ∷ after) next log left (door ++ passed.Wrote peer.number (take count peer.answers) ∷ [])
writes start early before peer after next log left door count late s = record {
  exchanges = s.exchanges;
  asked = s.asked;
  replied = s.replied;
  served = all_change (IsServed start.clients s.exchanges door) (IsServed start.clients s.exchanges (door ++ passed.Wrote peer.number (take count peer.answers) ∷ [])) before peer (record peer { answers = drop count peer.answers }) after
      (λ q apart was. other_written start.clients s.exchanges door peer.number (take count peer.answers) q apart.numbers was)
      (λ was. self_written start.clients s.exchanges door count peer was) s.apart s.served;
  apart = apart_change (IsBelow next) before peer (record peer { answers = drop count peer.answers }) after (λ q below_q was. record { numbers = was.numbers; requests = was.requests }) s.below s.apart;
  below = all_put (IsBelow next) before peer (record peer { answers = drop count peer.answers }) after (λ was. was) s.below;
  since = λ it. absurd (late it);
  fresh = λ it. absurd (late it);
}

below_next : (next : ℕ) (peer : Peer) → IsBelow next peer → IsBelow (next + 1) peer
below_next next peer below id is = let it = below id is in omega arith

not_next : (next : ℕ) (peer : Peer) → IsBelow next peer → (id : ℕ) → id ≡ next → peer.unanswered ≡ Some id → ⊥
not_next next peer below id same is = let it = below id is in omega arith

abbrev value_or : ℕ → Option ℕ → ℕ
value_or n None = n
value_or n (Some other) = other

some_injective : (a b : ℕ) → Some a ≡ Some b → a ≡ b
some_injective a b is = ap (value_or a) is

-- a request enters
asks : (start : DaemonState) (early : Type 0) (before : List Peer) (peer : Peer) (after : List Peer) (next : ℕ) (request : RequestValue) (given : Input) (waiting : List RequestValue) (log : Log) (left : List Output) (door : List Passed)
    → (early → ⊥) → peer.waiting ≡ request ∷ waiting → IsFedAs (next, request) given → requests_in (given ∷ []) ≡ given ∷ []
    → Stand start early (before ++ peer ∷ after) next log left door
    → Stand start early (before ++ asked next waiting peer ∷ after) (next + 1) (record log { fed = log.fed ++ given ∷ [] }) left door
asks start early before peer after next request given waiting log left door late first fed alone s = record {
  exchanges = Asked peer.number next request ∷ s.exchanges;
  replied = s.replied;
  asked = rw (requests_append log.fed given, alone) (fed_push (requests_of s.exchanges) (requests_in log.fed) (next, request) given s.asked fed);
  served = all_change (IsServed start.clients s.exchanges door) (IsServed start.clients (Asked peer.number next request ∷ s.exchanges) door) before peer (asked next waiting peer) after
      (λ q apart was. other_asked start.clients s.exchanges door peer.number next request q apart.numbers was)
      (λ was. self_asked start.clients s.exchanges door next request waiting peer first was) s.apart s.served;
  apart = apart_change (IsBelow next) before peer (asked next waiting peer) after (λ q below_q was. record {
    numbers = was.numbers;
    requests = λ id is. not_next next q below_q id (sym (some_injective next id is));
  }) s.below s.apart;
  below = all_put (IsBelow (next + 1)) before peer (asked next waiting peer) after (λ was id is. let same : next ≡ id = some_injective next id is in omega arith)
      (all_each (IsBelow next) (IsBelow (next + 1)) (before ++ peer ∷ after) (below_next next) s.below);
  since = λ it. absurd (late it);
  fresh = λ it. absurd (late it);
}

fresh_replied : (exchanges : List Exchange) (door : List Passed) (id : ℕ) (answer : Answer) → IsFresh exchanges door → IsFresh (Replied id answer ∷ exchanges) door
fresh_replied exchanges door id answer fresh n =
    ((fresh n).0, rw (fresh n).1 refl, rw (fresh n).1 (append-nil (frames_for n None exchanges) ∙ (fresh n).2), (fresh n).3, (fresh n).4)

replied_one : (w : ℕ → Answer → ℕ) (exchanges : List Exchange) (left rest : List Output) (id : ℕ) (answer : Answer) (n : ℕ)
    → left ≡ output.Reply id answer ∷ rest → weight_replied w exchanges + weight w left ≡ n
    → weight_replied w (Replied id answer ∷ exchanges) + weight w rest ≡ n
replied_one w exchanges left rest id answer n is so_far = let it = ap (weight w) is in omega arith

-- a request is answered
answers : (start : DaemonState) (early : Type 0) (before : List Peer) (peer : Peer) (after : List Peer) (next : ℕ) (log : Log) (left rest : List Output) (door : List Passed) (id : ℕ) (answer : Answer)
    → left ≡ output.Reply id answer ∷ rest → peer.unanswered ≡ Some id
    → Stand start early (before ++ peer ∷ after) next log left door
    → Stand start early (before ++ answered answer peer ∷ after) next log rest door
answers start early before peer after next log left rest door id answer first is s = record {
  exchanges = Replied id answer ∷ s.exchanges;
  asked = s.asked;
  replied = λ w. replied_one w s.exchanges left rest id answer (weight_given w log.gave) first (s.replied w);
  served = all_change (IsServed start.clients s.exchanges door) (IsServed start.clients (Replied id answer ∷ s.exchanges) door) before peer (answered answer peer) after
      (λ q apart was. other_replied start.clients s.exchanges door id answer q (apart.requests id is) was)
      (λ was. self_replied start.clients s.exchanges door id answer peer is was) s.apart s.served;
  apart = apart_change (IsBelow next) before peer (answered answer peer) after (λ q below_q was. record {
    numbers = was.numbers;
    requests = λ other none. absurd (none-some other none);
  }) s.below s.apart;
  below = all_put (IsBelow next) before peer (answered answer peer) after (λ was other none. absurd (none-some other none)) s.below;
  since = λ it n nobody. s.since it n (all_put (λ q. n ≢ q.number) before (answered answer peer) peer after (λ was. was) nobody);
  fresh = λ it. fresh_replied s.exchanges door id answer (s.fresh it);
}

-- nobody's request is answered
answers_nobody : (start : DaemonState) (early : Type 0) (clients : List Peer) (next : ℕ) (log : Log) (left rest : List Output) (door : List Passed) (id : ℕ) (answer : Answer)
    → left ≡ output.Reply id answer ∷ rest → AllByRecursion (λ peer. peer.unanswered ≢ Some id) clients
    → Stand start early clients next log left door → Stand start early clients next log rest door
answers_nobody start early clients next log left rest door id answer first none s = record {
  exchanges = Replied id answer ∷ s.exchanges;
  asked = s.asked;
  replied = λ w. replied_one w s.exchanges left rest id answer (weight_given w log.gave) first (s.replied w);
  served = all_both (λ peer. peer.unanswered ≢ Some id) (IsServed start.clients s.exchanges door) (IsServed start.clients (Replied id answer ∷ s.exchanges) door) clients
      (λ peer not was. other_replied start.clients s.exchanges door id answer peer not was) none s.served;
  apart = s.apart;
  below = s.below;
  since = s.since;
  fresh = λ it. fresh_replied s.exchanges door id answer (s.fresh it);
}

entered : (start : DaemonState) (early : Type 0) (old new : List Peer) (next : ℕ) (request : RequestValue) (given : Input) (log : Log) (left : List Output) (door : List Passed)
    → (early → ⊥) → IsFedAs (next, request) given × (requests_in (given ∷ []) ≡ given ∷ []) → IsEntered next request old new
    → Stand start early old next log left door → Stand start early new (next + 1) (record log { fed = log.fed ++ given ∷ [] }) left door
entered start early old new next request given log left door late fed (before, after, peer, waiting, was, none, first, is, rest) s =
    rw is (asks start early before peer after next request given waiting log left door late first fed.0 fed.1 (rw was at s))

queued : (start : DaemonState) (early : Type 0) (old new : List Peer) (next : ℕ) (log : Log) (left rest : List Output) (door : List Passed) (id : ℕ) (answer : Answer)
    → left ≡ output.Reply id answer ∷ rest → IsQueued id answer old new
    → Stand start early old next log left door → Stand start early new next log rest door
queued start early old new next log left rest door id answer first (inl (before, after, peer, was, waits, is)) s =
    rw is (answers start early before peer after next log left rest door id answer first waits (rw was at s))
queued start early old new next log left rest door id answer first (inr (same, none)) s =
    rw same (answers_nobody start early old next log left rest door id answer first none s)

-- in each part its clients are served
abbrev pub AreServed : DaemonState → Part → RoundState → Type 0
AreServed start part state = Stand start (IsEarly part) (all state.clients part) state.next (log_of state) state.left state.door.entries

pub keeps : (config : Configuration) (c : Chronicle) (start : DaemonState) → IsNumbered start.clients start.next → HasItsClients start → (part : Part) (state : RoundState)
    → Reaches config c start part state → AreServed start part state
keeps config c start numbered has part state Opens = begins start numbered
keeps config c start numbered has part state (Begins event later outputs was none is reaches) =
    let so_far = keeps config c start numbered has _ _ reaches in
    gives start _ _ was.next _ was.left was.door.entries outputs (feeds start _ _ _ _ _ _ (input.Emit event) refl so_far)
keeps config c start numbered has part state (HasBegun was none reaches) =
    let so_far = keeps config c start numbered has _ _ reaches in
    so_far
keeps config c start numbered has part state (ReadsClock reading outputs was is reaches) =
    let so_far = keeps config c start numbered has _ _ reaches in
    moves start _ _ _ _ was.next _ _ was.door.entries (λ it. tt) refl (gives start _ _ was.next _ was.left was.door.entries outputs (feeds start _ _ _ _ _ _ (input.Clock reading) refl so_far))
keeps config c start numbered has part state (ClockFails was reaches) =
    let so_far = keeps config c start numbered has _ _ reaches in
    moves start _ _ _ _ was.next (log_of was) was.left was.door.entries (λ it. tt) refl so_far
keeps config c start numbered has part state (FindsEnd who its how outputs was none is reaches) =
    let so_far = keeps config c start numbered has _ _ reaches in
    gives start _ _ was.next _ was.left was.door.entries outputs (feeds start _ _ _ _ _ _ (input.Ended who its how) refl so_far)
keeps config c start numbered has part state (FindsNone was none reaches) =
    let so_far = keeps config c start numbered has _ _ reaches in
    moves start _ _ _ _ was.next (log_of was) was.left was.door.entries (λ it. tt) refl so_far
keeps config c start numbered has part state (PollFails was none reaches) =
    let so_far = keeps config c start numbered has _ _ reaches in
    moves start _ _ _ _ was.next (log_of was) was.left was.door.entries (λ it. tt) refl so_far
keeps config c start numbered has part state (LetsIn number was few nobody reaches) =
    let so_far = keeps config c start numbered has _ _ reaches in
    comes start _ was.clients was.next (log_of was) was.left _ number tt (nobody has) (tells start _ was.clients was.next (log_of was) was.left was.door.entries (passed.Accepted (Some number)) (λ n. refl) (λ n. tt) so_far)
keeps config c start numbered has part state (NobodyWaits was few reaches) =
    let so_far = keeps config c start numbered has _ _ reaches in
    moves start _ _ _ _ was.next (log_of was) was.left _ (λ it. absurd it) refl (tells start _ was.clients was.next (log_of was) was.left was.door.entries (passed.Accepted None) (λ n. refl) (λ n. tt) so_far)
keeps config c start numbered has part state (AcceptFails was few reaches) =
    let so_far = keeps config c start numbered has _ _ reaches in
    moves start _ _ _ _ was.next (log_of was) was.left was.door.entries (λ it. absurd it) refl so_far
keeps config c start numbered has part state (IsFull was many reaches) =
    let so_far = keeps config c start numbered has _ _ reaches in
    moves start _ _ _ _ was.next (log_of was) was.left was.door.entries (λ it. absurd it) refl so_far
keeps config c start numbered has part state (PassesOver peer unread was many reaches) =
    let so_far = keeps config c start numbered has _ _ reaches in
    moves start _ _ _ _ was.next (log_of was) was.left was.door.entries (λ it. absurd it) (regroup was.clients peer unread) so_far
keeps config c start numbered has part state (FindsNothing peer unread was few reaches) =
    let so_far = keeps config c start numbered has _ _ reaches in
    moves start _ _ _ _ was.next (log_of was) was.left _ (λ it. absurd it) (regroup was.clients peer unread) (tells start _ _ was.next (log_of was) was.left was.door.entries (passed.Read peer.number None) (λ n. refl) (λ n. tt) so_far)
keeps config c start numbered has part state (FindsBytes piece rest requests peer unread was few is frames reaches) =
    let so_far = keeps config c start numbered has _ _ reaches in
    moves start ⊥ ⊥ _ _ was.next (log_of was) was.left _ (λ it. it) (regroup was.clients (heard requests rest peer) unread)
    (hears start ⊥ was.clients peer unread was.next (log_of was) was.left was.door.entries piece rest requests (λ it. it) frames so_far)
keeps config c start numbered has part state (FindsFault piece peer unread was few is broken reaches) =
    let so_far = keeps config c start numbered has _ _ reaches in
    breaks start ⊥ was.clients peer unread was.next (log_of was) was.left was.door.entries piece (λ it. it) so_far
keeps config c start numbered has part state (FindsLast peer unread was few reaches) =
    let so_far = keeps config c start numbered has _ _ reaches in
    breaks start ⊥ was.clients peer unread was.next (log_of was) was.left was.door.entries [] (λ it. it) so_far
keeps config c start numbered has part state (ReadFails peer unread was few reaches) =
    let so_far = keeps config c start numbered has _ _ reaches in
    drops start ⊥ was.clients peer unread was.next (log_of was) was.left was.door.entries (λ it. it) so_far
keeps config c start numbered has part state (HasRead was reaches) =
    let so_far = keeps config c start numbered has _ _ reaches in
    moves start ⊥ ⊥ _ _ was.next (log_of was) was.left was.door.entries (λ it. it) (sym (append-nil was.clients)) so_far
keeps config c start numbered has part state (Enters request given source clients outputs was none few is asked_as gives_it reaches) =
    let so_far = keeps config c start numbered has _ _ reaches in
    gives start ⊥ clients (was.next + 1) _ was.left was.door.entries outputs (entered start ⊥ was.clients clients was.next request given (log_of was) was.left was.door.entries (λ it. it) (fed_as was.next request given was.source source asked_as) is so_far)
keeps config c start numbered has part state (HasServed was none rest reaches) =
    let so_far = keeps config c start numbered has _ _ reaches in
    so_far
keeps config c start numbered has part state (TakesTurn turns outputs was none few touches is reaches) =
    let so_far = keeps config c start numbered has _ _ reaches in
    gives start ⊥ was.clients was.next _ was.left was.door.entries outputs (feeds start _ _ _ _ _ _ (input.Turn) refl so_far)
keeps config c start numbered has part state (HasTurned turns was none rest reaches) =
    let so_far = keeps config c start numbered has _ _ reaches in
    so_far
keeps config c start numbered has part state (NothingWaits peer unwritten was none reaches) =
    let so_far = keeps config c start numbered has _ _ reaches in
    moves start ⊥ ⊥ _ _ was.next (log_of was) was.left was.door.entries (λ it. it) (regroup was.clients peer unwritten) so_far
keeps config c start numbered has part state (Writes count peer unwritten was some reaches) =
    let so_far = keeps config c start numbered has _ _ reaches in
    moves start ⊥ ⊥ _ _ was.next (log_of was) was.left _ (λ it. it) (regroup was.clients (record peer { answers = drop count peer.answers }) unwritten)
    (writes start ⊥ was.clients peer unwritten was.next (log_of was) was.left was.door.entries count (λ it. it) so_far)
keeps config c start numbered has part state (WriteFails peer unwritten was some reaches) =
    let so_far = keeps config c start numbered has _ _ reaches in
    drops start ⊥ was.clients peer unwritten was.next (log_of was) was.left was.door.entries (λ it. it) so_far
keeps config c start numbered has part state (Starts among here order pid outputs left was first is reaches) =
    let so_far = keeps config c start numbered has _ _ reaches in
    gives start _ _ was.next _ left was.door.entries outputs (skips start _ _ was.next _ was.left left was.door.entries (output.Spawn order) first (λ w. refl) (feeds start _ _ _ _ _ _ (input.Spawned order.who order.process pid) refl so_far))
keeps config c start numbered has part state (StartFails among here order outputs left was first is reaches) =
    let so_far = keeps config c start numbered has _ _ reaches in
    gives start _ _ was.next _ left was.door.entries outputs (skips start _ _ was.next _ was.left left was.door.entries (output.Spawn order) first (λ w. refl) (feeds start _ _ _ _ _ _ (input.Refused order.who order.process) refl so_far))
keeps config c start numbered has part state (Signals among here who pid signal left was first reaches) =
    let so_far = keeps config c start numbered has _ _ reaches in
    skips start _ _ was.next (log_of was) was.left left was.door.entries (output.Signal who pid signal) first (λ w. refl) so_far
keeps config c start numbered has part state (SignalFails among here who pid signal left was first reaches) =
    let so_far = keeps config c start numbered has _ _ reaches in
    skips start _ _ was.next (log_of was) was.left left was.door.entries (output.Signal who pid signal) first (λ w. refl) so_far
keeps config c start numbered has part state (PassesEvent among here event left was first reaches) =
    let so_far = keeps config c start numbered has _ _ reaches in
    skips start _ _ was.next (log_of was) was.left left was.door.entries (output.Emitted event) first (λ w. refl) so_far
keeps config c start numbered has part state (Replies among here id answer left clients was first is reaches) =
    let so_far = keeps config c start numbered has _ _ reaches in
    moves start _ _ _ _ was.next (log_of was) left was.door.entries (λ it. it) (all_here clients among here)
    (queued start _ was.clients clients was.next (log_of was) was.left left was.door.entries id answer first is
    (moves start _ _ _ _ was.next (log_of was) was.left was.door.entries (λ it. it) (sym (all_here was.clients among here)) so_far))
keeps config c start numbered has part state (Closes number among was reaches) =
    let so_far = keeps config c start numbered has _ _ reaches in
    tells start _ _ was.next (log_of was) was.left was.door.entries (passed.Closed number) (λ n. refl) (λ n. tt) so_far
keeps config c start numbered has part state (ClosesUnrecorded number among was reaches) =
    let so_far = keeps config c start numbered has _ _ reaches in
    so_far

finish : (start : DaemonState) (end : DaemonState) (fed : List Input) (gave : List (List Output))
    → Stand start ⊥ end.clients end.next (record { fed = fed; gave = gave }) [] end.door.entries
    → IsJust start fed gave end
finish start end fed gave s = record {
  exchanges = s.exchanges;
  asked = s.asked;
  replied = λ w. let it = s.replied w in omega arith;
  served = s.served;
  numbered = record { apart = s.apart; below = s.below };
}

pub loses_nothing : (config : Configuration) (c : Chronicle) (start : DaemonState) (fed : List Input) (gave : List (List Output)) (end : DaemonState)
    → IsNumbered start.clients start.next → HasItsClients start → IsRound config c start fed gave end → IsJust start fed gave end
loses_nothing config c start fed gave end numbered has reaches =
    finish start end fed gave
    (moves start ⊥ ⊥ _ _ end.next _ [] end.door.entries (λ it. it) (sym (append-nil end.clients)) (keeps config c start numbered has _ _ reaches))
