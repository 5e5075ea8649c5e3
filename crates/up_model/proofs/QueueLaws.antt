-- The queue: its events stand by age, and what it says of an event.
use Rattle.std.proofs.Common.{◌≡◌, ℕ, suc, ◌<◌, ◌==◌, Bool, true, false, ◌||◌, not, List, [], ◌∷◌, ◌++◌, length, Option, None, Some, if◌then◌else◌, refl, ◌∙◌, ap, arith, eqb-true, eq-eqb, ne_eqb, subst}
use Rattle.std.specs.List.{AllByRecursion}
use Rattle.up_model.specs.Configuration.{Configuration}
use Rattle.up_model.specs.Chronicle.{Chronicle, Queued, Handled, Finished}
use Rattle.up_model.specs.Queue.{Live, live_at, with_handled, without_event, queue}
use Rattle.up_model.specs.Held.{is_held}
use Rattle.up_model.specs.Due.{turn_event}
use Rattle.up_model.specs.Laws.{AreByAge}

-- an event at the end, which is younger than all
younger-append : (p n : ℕ) (lives : List Live) → AllByRecursion (λ other. p < other.place) lives → p < n
    → AllByRecursion (λ other. p < other.place) (lives ++ live_at n false ∷ [])
younger-append p n [] h last = (last, tt)
younger-append p n (live ∷ lives) h last = (h.0, younger-append p n lives h.1 last)

-- the ages then go on by one
AreByAge-append : (n : ℕ) (lives : List Live) → AreByAge lives n → AreByAge (lives ++ live_at n false ∷ []) (suc n)
AreByAge-append n [] h = (omega arith, tt, tt)
AreByAge-append n (live ∷ lives) h = (omega arith, younger-append live.place n lives h.1 h.0, AreByAge-append n lives h.2)

-- the end may come later
AreByAge-later : (n : ℕ) (lives : List Live) → AreByAge lives n → AreByAge lives (suc n)
AreByAge-later n [] h = tt
AreByAge-later n (live ∷ lives) h = (omega arith, h.1, AreByAge-later n lives h.2)

-- marking an event leaves the rest younger
younger-with_handled : (p event : ℕ) (lives : List Live) → AllByRecursion (λ other. p < other.place) lives
    → AllByRecursion (λ other. p < other.place) (with_handled event lives)
younger-with_handled p event [] h = tt
younger-with_handled p event (live ∷ lives) h = by_case (live.place == event) (younger-with_handled p event lives h.1)
  where
    by_case : (b : Bool) → AllByRecursion (λ other. p < other.place) (with_handled event lives)
        → AllByRecursion (λ other. p < other.place) (if b then live_at live.place true ∷ with_handled event lives else live ∷ with_handled event lives)
    by_case true rest = (h.0, rest)
    by_case false rest = (h.0, rest)

-- and leaves the ages
AreByAge-with_handled : (n event : ℕ) (lives : List Live) → AreByAge lives n → AreByAge (with_handled event lives) n
AreByAge-with_handled n event [] h = tt
AreByAge-with_handled n event (live ∷ lives) h = by_case (live.place == event) (younger-with_handled live.place event lives h.1) (AreByAge-with_handled n event lives h.2)
  where
    by_case : (b : Bool) → AllByRecursion (λ other. live.place < other.place) (with_handled event lives) → AreByAge (with_handled event lives) n
        → AreByAge (if b then live_at live.place true ∷ with_handled event lives else live ∷ with_handled event lives) n
    by_case true younger rest = (h.0, younger, rest)
    by_case false younger rest = (h.0, younger, rest)

-- taking an event out leaves the rest younger
younger-without_event : (p event : ℕ) (lives : List Live) → AllByRecursion (λ other. p < other.place) lives
    → AllByRecursion (λ other. p < other.place) (without_event event lives)
younger-without_event p event [] h = tt
younger-without_event p event (live ∷ lives) h = by_case (live.place == event) (younger-without_event p event lives h.1)
  where
    by_case : (b : Bool) → AllByRecursion (λ other. p < other.place) (without_event event lives)
        → AllByRecursion (λ other. p < other.place) (if b then without_event event lives else live ∷ without_event event lives)
    by_case true rest = rest
    by_case false rest = (h.0, rest)

-- and leaves the ages
AreByAge-without_event : (n event : ℕ) (lives : List Live) → AreByAge lives n → AreByAge (without_event event lives) n
AreByAge-without_event n event [] h = tt
AreByAge-without_event n event (live ∷ lives) h = by_case (live.place == event) (younger-without_event live.place event lives h.1) (AreByAge-without_event n event lives h.2)
  where
    by_case : (b : Bool) → AllByRecursion (λ other. live.place < other.place) (without_event event lives) → AreByAge (without_event event lives) n
        → AreByAge (if b then without_event event lives else live ∷ without_event event lives) n
    by_case true younger rest = rest
    by_case false younger rest = (h.0, younger, rest)

-- the queue stands by age
pub queue_by_age : (c : Chronicle) → AreByAge (queue c) (length c)
queue_by_age [] = tt
queue_by_age (Queued origin event ∷ c) = AreByAge-append (length c) (queue c) (queue_by_age c)
queue_by_age (Handled event ∷ c) = AreByAge-later (length c) (with_handled event (queue c)) (AreByAge-with_handled (length c) event (queue c) (queue_by_age c))
queue_by_age (Finished event ∷ c) = AreByAge-later (length c) (without_event event (queue c)) (AreByAge-without_event (length c) event (queue c) (queue_by_age c))
queue_by_age (entry ∷ c) = AreByAge-later (length c) (queue c) (queue_by_age c)

-- whether an event stands in the queue, and was handled
abbrev pub status : ℕ → List Live → Option Bool
status event [] = None
status event (live ∷ lives) = if live.place == event then Some live.handled else status event lives

-- the first of two
abbrev pub first_status : Option Bool → Option Bool → Option Bool
first_status None other = other
first_status (Some handled) other = Some handled

-- an event at the end
pub status-append : (event n : ℕ) (handled : Bool) (lives : List Live)
    → status event (lives ++ live_at n handled ∷ []) ≡ first_status (status event lives) (if n == event then Some handled else None)
status-append event n handled [] = refl
status-append event n handled (live ∷ lives) = by_case (live.place == event) (status-append event n handled lives)
  where
    by_case : (b : Bool) → status event (lives ++ live_at n handled ∷ []) ≡ first_status (status event lives) (if n == event then Some handled else None)
        → (if b then Some live.handled else status event (lives ++ live_at n handled ∷ [])) ≡ first_status (if b then Some live.handled else status event lives) (if n == event then Some handled else None)
    by_case true rest = refl
    by_case false rest = rest

-- an event of the queue is older than the end
pub status-older : (event n : ℕ) (lives : List Live) (handled : Bool) → AreByAge lives n → status event lives ≡ Some handled → event < n
status-older event n [] handled h e = cc
status-older event n (live ∷ lives) handled h e = by_case (live.place == event) refl e (status-older event n lives handled h.2)
  where
    by_case : (b : Bool) → (live.place == event) ≡ b → (if b then Some live.handled else status event lives) ≡ Some handled
        → (status event lives ≡ Some handled → event < n) → event < n
    by_case true same e ih = subst (λ place. place < n) (eqb-true live.place event same) h.0
    by_case false differs e ih = ih e

-- an event that is marked was handled
pub status-with_handled : (event : ℕ) (lives : List Live) (handled : Bool) → status event lives ≡ Some handled → status event (with_handled event lives) ≡ Some true
status-with_handled event [] handled e = cc
status-with_handled event (live ∷ lives) handled e = by_case (live.place == event) refl e (status-with_handled event lives handled)
  where
    by_case : (b : Bool) → (live.place == event) ≡ b → (if b then Some live.handled else status event lives) ≡ Some handled
        → (status event lives ≡ Some handled → status event (with_handled event lives) ≡ Some true)
        → status event (if b then live_at live.place true ∷ with_handled event lives else live ∷ with_handled event lives) ≡ Some true
    by_case true same e ih = rw same refl
    by_case false other e ih = rw other (ih e)

-- and the others are as they were
pub status-with_handled_other : (event other : ℕ) (lives : List Live) → (event == other) ≡ false → status other (with_handled event lives) ≡ status other lives
status-with_handled_other event other [] h = refl
status-with_handled_other event other (live ∷ lives) h = by_case (live.place == event) refl (status-with_handled_other event other lives h)
  where
    by_case : (b : Bool) → (live.place == event) ≡ b → status other (with_handled event lives) ≡ status other lives
        → status other (if b then live_at live.place true ∷ with_handled event lives else live ∷ with_handled event lives) ≡ (if live.place == other then Some live.handled else status other lives)
    by_case true same ih = rw (ap (λ place. place == other) (eqb-true live.place event same) ∙ h) ih
    by_case false differs ih = ap (λ rest. if live.place == other then Some live.handled else rest) ih

-- an event that is taken out is gone
pub status-without_event : (event : ℕ) (lives : List Live) → status event (without_event event lives) ≡ None
status-without_event event [] = refl
status-without_event event (live ∷ lives) = by_case (live.place == event) refl (status-without_event event lives)
  where
    by_case : (b : Bool) → (live.place == event) ≡ b → status event (without_event event lives) ≡ None
        → status event (if b then without_event event lives else live ∷ without_event event lives) ≡ None
    by_case true same ih = ih
    by_case false differs ih = rw differs ih

-- and the others are as they were
pub status-without_event_other : (event other : ℕ) (lives : List Live) → (event == other) ≡ false → status other (without_event event lives) ≡ status other lives
status-without_event_other event other [] h = refl
status-without_event_other event other (live ∷ lives) h = by_case (live.place == event) refl (status-without_event_other event other lives h)
  where
    by_case : (b : Bool) → (live.place == event) ≡ b → status other (without_event event lives) ≡ status other lives
        → status other (if b then without_event event lives else live ∷ without_event event lives) ≡ (if live.place == other then Some live.handled else status other lives)
    by_case true same ih = rw (ap (λ place. place == other) (eqb-true live.place event same) ∙ h) ih
    by_case false differs ih = ap (λ rest. if live.place == other then Some live.handled else rest) ih

-- what holds of all events of the queue holds of a turn's
pub turn_event-all : (P : Live → Type 0) (config : Configuration) (lives : List Live) (c : Chronicle) (live : Live) → AllByRecursion P lives
    → turn_event config lives c ≡ Some live → P live
turn_event-all P config [] c live h e = cc
turn_event-all P config (first ∷ lives) c live h e = by_case (not first.handled || not (is_held config first.place c)) e (turn_event-all P config lives c live h.1)
  where
    by_case : (b : Bool) → (if b then Some first else turn_event config lives c) ≡ Some live → (turn_event config lives c ≡ Some live → P live) → P live
    by_case true e ih = let same : first ≡ live = cc in subst P same h.0
    by_case false e ih = ih e

-- the event of a turn is in the queue
pub turn_event-status : (n : ℕ) (config : Configuration) (lives : List Live) (c : Chronicle) (live : Live) → AreByAge lives n → turn_event config lives c ≡ Some live
    → status live.place lives ≡ Some live.handled
turn_event-status n config [] c live h e = cc
turn_event-status n config (first ∷ lives) c live h e = by_case (not first.handled || not (is_held config first.place c)) e (turn_event-status n config lives c live h.2)
  where
    by_case : (b : Bool) → (if b then Some first else turn_event config lives c) ≡ Some live
        → (turn_event config lives c ≡ Some live → status live.place lives ≡ Some live.handled)
        → (if first.place == live.place then Some first.handled else status live.place lives) ≡ Some live.handled
    by_case true e ih = let same : first ≡ live = cc in subst (λ it. (if first.place == it.place then Some first.handled else status it.place lives) ≡ Some it.handled) same (rw (eq-eqb first.place first.place refl) refl)
    by_case false e ih =
        let younger : first.place < live.place = turn_event-all (λ other. first.place < other.place) config lives c live h.1 e in
        rw (ne_eqb first.place live.place (λ same. omega arith)) (ih e)

-- and isn't held where it was handled
pub turn_event-held : (config : Configuration) (lives : List Live) (c : Chronicle) (live : Live) → turn_event config lives c ≡ Some live → live.handled ≡ true
    → is_held config live.place c ≡ false
turn_event-held config [] c live e handled = cc
turn_event-held config (first ∷ lives) c live e handled =
    by_case first.handled (is_held config first.place c) refl refl e (λ rest. turn_event-held config lives c live rest handled)
  where
    by_case : (b held : Bool) → first.handled ≡ b → is_held config first.place c ≡ held → (if not b || not held then Some first else turn_event config lives c) ≡ Some live
        → (turn_event config lives c ≡ Some live → is_held config live.place c ≡ false) → is_held config live.place c ≡ false
    by_case true true f g e ih = ih e
    by_case true false f g e ih = let same : first ≡ live = cc in subst (λ it. is_held config it.place c ≡ false) same g
    by_case false held f g e ih =
        let same : first ≡ live = cc in
        let unhandled : live.handled ≡ false = subst (λ it. it.handled ≡ false) same f in
        cc
