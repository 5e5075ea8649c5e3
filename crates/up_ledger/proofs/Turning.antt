-- The event of a turn.
use Rattle.std.proofs.Common.{◌≡◌, ℕ, ◌+◌, ◌==◌, ◌||◌, Bool, true, false, not, List, [], ◌∷◌, map, Option, None, Some, is_some, option_map, if◌then◌else◌, refl, sym, ◌∙◌, ap, eqb-true, eq-eqb}
use Rattle.up_event.specs.declared.live.LiveEvent.{LiveEvent}
use Rattle.up_event.specs.declared.live.TurnKind.TheVariants.{Handle, Finish}
use Rattle.up_event.specs.LiveEvents.{named, is, AreDistinct, or_later, next_turn}
use Rattle.up_model.specs.declared.event.Event.{Event}
use Rattle.up_model.specs.declared.event_id.EventId.{EventId}
use Rattle.up_model.specs.Chronicle.{Chronicle, Entry, Origin, Queued}
use Rattle.up_model.specs.Configuration.{Configuration}
use Rattle.up_model.specs.Due.{turn_event}
use Rattle.up_model.specs.Held.{is_held}
use Rattle.up_model.specs.Queue.{Live, live_at, queue}
use Rattle.up_model.specs.Readings.{entry_at, event_at, event_of}
use Rattle.up_ledger.specs.declared.past.Past.{Past}
use Rattle.up_job.specs.declared.instances.JobInstances.{JobInstances}
use Rattle.up_ledger.specs.Counting.{uses, start_uses}
use Rattle.up_ledger.specs.Remembering.{Remembered}
use Rattle.up_marks.specs.declared.mark.Mark.{Mark}
use Rattle.up_ledger.specs.Eventing.{Standing, standing_of, standing_at, place_of, holds_in, AreCounted}
use Rattle.up_book.specs.Keeps.{KeepsJobs, AreDistinct as HaveNames}
use Rattle.up_ledger.specs.Standing.{Forgets}
use Rattle.up_book.specs.Turning.{turn_at}
use Rattle.up_book.specs.Views.{Places}
use Rattle.up_ledger.proofs.Counting.{held}
use Rattle.up_ledger.proofs.Placing.{names}

-- a live event and what the queue says of it
pub record Pair (places : Places) (config : Configuration) (c : Chronicle) (event : LiveEvent) (live : Live) : Type 0 where
  pub place : places event.id ≡ Some live.place
  pub handled : event.handled ≡ live.handled
  pub held : is_held config live.place c ≡ not (event.holds == 0)

abbrev pub Pairs : Places → Configuration → Chronicle → List LiveEvent → List Live → Type 0
Pairs places config c [] [] = Unit {0}
Pairs places config c [] (live ∷ lives) = ⊥
Pairs places config c (event ∷ events) [] = ⊥
Pairs places config c (event ∷ events) (live ∷ lives) = Pair places config c event live × Pairs places config c events lives

pub turn-same : (places : Places) (config : Configuration) (c : Chronicle) (events : List LiveEvent) (lives : List Live) → Pairs places config c events lives
    → turn_at places (next_turn events) ≡ option_map Some (turn_event config lives c)
turn-same places config c [] [] pairs = refl
turn-same places config c [] (live ∷ lives) pairs = absurd pairs
turn-same places config c (event ∷ events) [] pairs = absurd pairs
turn-same places config c (event ∷ events) (live ∷ lives) pairs =
    by_case event.handled live.handled (event.holds == 0) (is_held config live.place c) refl pairs.0.handled pairs.0.held (turn-same places config c events lives pairs.1)
  where
    as-live : (b : Bool) → live.handled ≡ b → Some (live_at live.place b) ≡ Some live
    as-live b same = ap (λ h. Some (live_at live.place h)) (sym same)

    by_case : (h l free its : Bool) → live.handled ≡ l → h ≡ l → its ≡ not free → turn_at places (next_turn events) ≡ option_map Some (turn_event config lives c)
        → turn_at places (or_later (if not h then Some (event.id, Handle) else (if free then Some (event.id, Finish) else None)) (next_turn events))
        ≡ option_map Some (if not l || not its then Some live else turn_event config lives c)
    by_case false false free its is same held ih = rw pairs.0.place (ap Some (as-live false is))
    by_case false true free its is same held ih = absurd cc
    by_case true false free its is same held ih = absurd cc
    by_case true true true false is same held ih = rw pairs.0.place (ap Some (as-live true is))
    by_case true true true true is same held ih = absurd cc
    by_case true true false false is same held ih = absurd cc
    by_case true true false true is same held ih = ih

pub queued-there : (its : Option Entry) (event : Event) → event_of its ≡ Some event → (origin : Origin) × (its ≡ Some (Queued origin event))
queued-there None event is = absurd cc
queued-there (Some (Queued origin other)) event is =
    let same : other ≡ event = cc in
    (origin, ap (λ e. Some (Queued origin e)) same)
queued-there (Some other) event is = absurd cc

-- each live event is paired with its place
places-apart-from : (first : LiveEvent) (place : ℕ) (events : List LiveEvent) (lives : List Live) (other : EventId) (p : ℕ) → named first.id events ≡ None → is_some (named other events) ≡ true
    → (if first.id.key == other.key then Some place else place_of events lives other) ≡ place_of events lives other
places-apart-from first place events lives other p none some = by_case (first.id.key == other.key) refl
  where
    with_key : ℕ → EventId
    with_key key = record { key = key }

    by_case : (b : Bool) → (first.id.key == other.key) ≡ b → (if b then Some place else place_of events lives other) ≡ place_of events lives other
    by_case true same =
        let its : named other events ≡ None = ap (λ key. named (with_key key) events) (sym (eqb-true first.id.key other.key same)) ∙ none in
        let both : is_some (named other events) ≡ false = ap (λ (o : Option LiveEvent). is_some o) its in
        absurd cc
    by_case false differs = refl

-- what is at the same index of both lists
pub record Matches (all : List LiveEvent) (whole : List Live) (c : Chronicle) (event : LiveEvent) (live : Live) : Type 0 where
  pub place : place_of all whole event.id ≡ Some live.place
  pub named : named event.id all ≡ Some event
  pub standing : standing_of event ≡ standing_at c live

abbrev pub Match : List LiveEvent → List Live → Chronicle → List LiveEvent → List Live → Type 0
Match all whole c [] [] = Unit {0}
Match all whole c [] (live ∷ lives) = ⊥
Match all whole c (event ∷ events) [] = ⊥
Match all whole c (event ∷ events) (live ∷ lives) = Matches all whole c event live × Match all whole c events lives

more-match : (first : LiveEvent) (head : Live) (all : List LiveEvent) (whole : List Live) (c : Chronicle) (events : List LiveEvent) (lives : List Live) → named first.id all ≡ None → Match all whole c events lives
    → Match (first ∷ all) (head ∷ whole) c events lives
more-match first head all whole c [] [] fresh m = tt
more-match first head all whole c [] (live ∷ lives) fresh m = m
more-match first head all whole c (event ∷ events) [] fresh m = m
more-match first head all whole c (event ∷ events) (live ∷ lives) fresh m =
    let some : is_some (named event.id all) ≡ true = ap (λ (o : Option LiveEvent). is_some o) m.0.named in (
      record {
        place = places-apart-from first head.place all whole event.id live.place fresh some ∙ m.0.place;
        named = by_case (first.id.key == event.id.key) refl;
        standing = m.0.standing;
      },
      more-match first head all whole c events lives fresh m.1,
    )
  where
    with_key : ℕ → EventId
    with_key key = record { key = key }

    by_case : (b : Bool) → (first.id.key == event.id.key) ≡ b → (if b then Some first else named event.id all) ≡ Some event
    by_case true same =
        let its : named event.id all ≡ None = ap (λ key. named (with_key key) all) (sym (eqb-true first.id.key event.id.key same)) ∙ fresh in
        let both : None ≡ Some event = sym its ∙ m.0.named in
        absurd cc
    by_case false differs = m.0.named

pub matches : (events : List LiveEvent) (lives : List Live) (c : Chronicle) → AreDistinct events → map standing_of events ≡ map (standing_at c) lives → Match events lives c events lives
matches [] [] c distinct same = tt
matches [] (live ∷ lives) c distinct same = absurd cc
matches (event ∷ events) [] c distinct same = absurd cc
matches (event ∷ events) (live ∷ lives) c distinct same =
    let first : standing_of event ≡ standing_at c live = cc in
    let rest : map standing_of events ≡ map (standing_at c) lives = cc in
    let mine : (event.id.key == event.id.key) ≡ true = eq-eqb event.id.key event.id.key refl in
    (record { place = rw mine refl; named = rw mine refl; standing = first }, more-match event live events lives c events lives distinct.0 (matches events lives c distinct.1 rest))

pairs-of : (all : List LiveEvent) (jobs : List JobInstances) (starts : List (Option (List Mark))) (config : Configuration) (c : Chronicle) (events : List LiveEvent) (lives : List Live) → KeepsJobs (place_of all (queue c)) jobs config c
    → Remembered (place_of all (queue c)) jobs starts config c → HaveNames config.jobs → AreCounted all jobs starts
    → Match all (queue c) c events lives → Pairs (place_of all (queue c)) config c events lives
pairs-of all jobs starts config c [] [] keeps remembered distinct counted m = tt
pairs-of all jobs starts config c [] (live ∷ lives) keeps remembered distinct counted m = m
pairs-of all jobs starts config c (event ∷ events) [] keeps remembered distinct counted m = m
pairs-of all jobs starts config c (event ∷ events) (live ∷ lives) keeps remembered distinct counted m =
    let there : event_at live.place c ≡ Some event.event = sym (ap (λ (s : Standing). s.event) m.0.standing) in
    let queued = queued-there (entry_at live.place c) event.event there in
    let count : uses event.id jobs + start_uses event.id starts ≡ event.holds = sym (counted event.id) ∙ ap holds_in m.0.named in (
      record {
        place = m.0.place;
        handled = ap (λ (s : Standing). s.handled) m.0.standing;
        held = held (place_of all (queue c)) jobs starts config c event.id live.place queued.0 event.event keeps remembered distinct (names all c event.id live.place m.0.place) queued.1 ∙ ap (λ n. not (n == 0)) count;
      },
      pairs-of all jobs starts config c events lives keeps remembered distinct counted m.1,
    )

pub turn-known : (book : Past) (config : Configuration) (c : Chronicle) → Forgets book config c → AreDistinct book.events
    → turn_at (place_of book.events (queue c)) (next_turn book.events) ≡ option_map Some (turn_event config (queue c) c)
turn-known book config c f distinct =
    turn-same (place_of book.events (queue c)) config c book.events (queue c)
    (pairs-of book.events book.instances book.starts.items config c book.events (queue c) f.lives.jobs f.remembered f.lives.distinct f.counted (matches book.events (queue c) c distinct f.standings))
