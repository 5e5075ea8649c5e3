-- An offer that fires, and a move: what is left to be offered after them, and what comes of the step.
use Rattle.up_cascade.proofs.Names.{◌≡◌, ℕ, nat_lt, Bool, true, false, not, List, [], ◌∷◌, ◌++◌, length, Option, None}
use Rattle.up_cascade.proofs.Names.{Some, bytes_eq, if◌then◌else◌, refl, sym, ◌∙◌, ap, subst, append_assoc, eq-eqb}
use Rattle.up_cascade.proofs.Names.{◌&&◌, ◌||◌, AllByRecursion, JobDef, Process, JobEvent, Start, State, Who}
use Rattle.up_cascade.proofs.Names.{Chronicle, Entry, Offered, Fired, Made, Aimed, Entered, StartOn, Signalled}
use Rattle.up_cascade.proofs.Names.{Expression, Ordered, StopOn, Configuration, due, events_at, Instance}
use Rattle.up_cascade.proofs.Names.{instances_of, place_named, instance_named, entering, may_leave, next_of, move}
use Rattle.up_cascade.proofs.Names.{has_process, emitting, ordering, enter, enter_whole, who_of, offering, stop_offer}
use Rattle.up_cascade.proofs.Names.{max_instances, start_of, who_called, start_who, start_by, start_offer, start_env}
use Rattle.up_cascade.proofs.Names.{is_start, entries_if, or_else, goal, state_of, lives, releasing, answering_last}
use Rattle.up_cascade.proofs.Names.{seen, holds, taken, Bytes, Bindings, offer_next, bytes_refl, releasing-all}
use Rattle.up_cascade.proofs.Names.{all-append, all-if, nth, AreDistinct, Asked, OfStop, OfStart}
use Rattle.up_stanza.specs.declared.process.Process.TheVariants as process
use Rattle.up_model.specs.declared.life.EntryActions as table
use Rattle.up_model.specs.Environments.{env_of_job, instance_name}
use Rattle.up_model.specs.Events.{events_env, with_instance, stopped_by}
use Rattle.up_model.specs.Offers.{is_newborn, is_open, stop_of, stop_by}
use Rattle.up_model.specs.Seen.{same_expression, was_offered}
use Rattle.up_cascade.specs.Offering.{expression_of, open_stops, open_start, open_all, offer_at}
use Rattle.up_book.proofs.Lists.{cons_same}
use Rattle.up_cascade.proofs.JobMoves.{move_first, due-by}
use Rattle.up_cascade.proofs.Moving.{first-moves}
use Rattle.up_cascade.proofs.Offering.{rested, rested-next, first-offer, offer-filled, all-left, is_left}
use Rattle.up_cascade.proofs.Entries.{or_else-some}
use Rattle.up_cascade.proofs.MoveLemmas.{filled_move}
use Rattle.up_cascade.proofs.Passing.{still-offered}
use Rattle.up_cascade.proofs.Opening.{About, open-made, made-closed}
use Rattle.up_cascade.proofs.Firing.{IsHandling, IsAt, at-entries, stay-still, still-stay, stay-entry, stay-made}

abbrev pub IsApart : Asked → List Asked → Type 0
IsApart a left = AllByRecursion (λ other. same_expression (expression_of a) (expression_of other) ≡ false) left

all-kept : (a : Asked) (xs : List Asked) → IsApart a xs → Rattle.std.specs.Prelude.filter (is_left (expression_of a)) xs ≡ xs
all-kept a [] apart = refl
all-kept a (x ∷ xs) apart = rw apart.0 (cons_same refl (all-kept a xs apart.1))

same-refl : (a : Asked) → same_expression (expression_of a) (expression_of a) ≡ true
same-refl (OfStop file i) = eq-eqb i i refl
same-refl (OfStart job) = bytes_refl job.name

next-open : (jobs : List JobDef) (a : Asked) (xs : List Asked) (event : ℕ) (c : Chronicle) → open_all jobs c ≡ a ∷ xs → IsApart a xs → open_all jobs (Offered (expression_of a) event ∷ c) ≡ xs
next-open jobs a xs event c first apart =
    all-left (expression_of a) event jobs c ∙ ap (Rattle.std.specs.Prelude.filter (is_left (expression_of a))) first ∙ head (same_expression (expression_of a) (expression_of a)) (same-refl a)
  where
    head : (b : Bool) → b ≡ true → Rattle.std.specs.Prelude.filter (is_left (expression_of a)) (a ∷ xs) ≡ xs
    head b is = rw (same-refl a) (all-kept a xs apart)

-- an offer that doesn't fire leaves the rest
pub after-offer : (jobs : List JobDef) (a : Asked) (left : List Asked) (e : ℕ) (c : Chronicle) → IsHandling jobs e (a ∷ left) c → IsApart a left → IsHandling jobs e left (Offered (expression_of a) e ∷ c)
after-offer jobs a left e c h apart = record {
  open_left = next-open jobs a left e c h.open_left apart;
  handles = h.handles;
  still = λ i. stay-still i jobs (Offered (expression_of a) e ∷ c) (still-offered jobs c (expression_of a) e (still-stay jobs c (h.still (length c))));
}

-- one of a `stop on` that fires leaves the rest, and its instance alone may move
stop-about : (i : ℕ) (events : List ℕ) (f : Chronicle) → AllByRecursion (About i) (stop_by i events f)
stop-about i events f =
    all-if (About i) (is_start (goal i f)) (stop_of i (stopped_by (events_at events f)) events f)
    (refl, releasing-all (About i) (λ request answer. tt) i false tt f)

closed-offered : (i e : ℕ) (c : Chronicle) → is_open i (Offered (StopOn i) e ∷ c) ≡ false
closed-offered i e c = rw (eq-eqb i i refl) (either (is_newborn i c))
  where
    either : (b : Bool) → not (b || true) ≡ false
    either true = refl
    either false = refl

pub after-stop : (config : Configuration) (job : JobDef) (i : ℕ) (left : List Asked) (e : ℕ) (c : Chronicle) → IsHandling config.jobs e (OfStop job i ∷ left) c → IsApart (OfStop job i) left
    → IsAt i config.jobs e left (stop_offer config job i e c ++ c)
after-stop config job i left e c h apart =
    let d : Chronicle = Offered (StopOn i) e ∷ c in
    let offered = after-offer config.jobs (OfStop job i) left e c h apart in
    let at_d : IsAt i config.jobs e left d = record { open_left = offered.open_left; handles = offered.handles; closed = closed-offered i e c; stay = offered.still i } in
    subst (IsAt i config.jobs e left) (sym (append_assoc es (Offered (StopOn i) e ∷ []) c)) (at-entries i config.jobs e left es d all at_d)
  where
    events : List ℕ
    events = taken job.stop_on (seen config (StopOn i) (Offered (StopOn i) e ∷ c))

    f : Chronicle
    f = Fired (StopOn i) events ∷ Offered (StopOn i) e ∷ c

    es : List Entry
    es = entries_if (holds job.stop_on (seen config (StopOn i) (Offered (StopOn i) e ∷ c))) (stop_by i events f ++ Fired (StopOn i) events ∷ [])

    all : AllByRecursion (About i) es
    all = all-if (About i) (holds job.stop_on (seen config (StopOn i) (Offered (StopOn i) e ∷ c))) (stop_by i events f ++ Fired (StopOn i) events ∷ [])
        (all-append (About i) (stop_by i events f) (Fired (StopOn i) events ∷ []) (stop-about i events f) (tt, tt))

-- when it is a `start on`'s turn, no instance of its job is open
abbrev AreClosed : List Instance → Chronicle → Type 0
AreClosed its c = AllByRecursion (λ x. is_open x.place c ≡ false) its

stops-closed : (other : JobDef) (its : List Instance) (c : Chronicle) (tail left : List Asked) → open_stops its c ++ tail ≡ OfStart other ∷ left → AreClosed its c × (tail ≡ OfStart other ∷ left)
stops-closed other [] c tail left first = (tt, first)
stops-closed other (x ∷ its) c tail left first = by_case (is_open x.place c) refl first (stops-closed other its c tail left)
  where
    by_case : (b : Bool) → is_open x.place c ≡ b → (if b then OfStop x.file x.place ∷ open_stops its c else open_stops its c) ++ tail ≡ OfStart other ∷ left
        → (open_stops its c ++ tail ≡ OfStart other ∷ left → AreClosed its c × (tail ≡ OfStart other ∷ left))
        → AreClosed (x ∷ its) c × (tail ≡ OfStart other ∷ left)
    by_case true is first ih = absurd cc
    by_case false is first ih =
        let rest = ih first in
        ((is, rest.0), rest.1)

first-closed : (jobs : List JobDef) (other : JobDef) (left : List Asked) (c : Chronicle) → open_all jobs c ≡ OfStart other ∷ left → AreClosed (instances_of other.name c) c
first-closed [] other left c first = absurd cc
first-closed (job ∷ jobs) other left c first =
    let both = stops-closed other (instances_of job.name c) c (open_start job c ++ open_all jobs c) left first in
    by_case (was_offered (StartOn job.name) c) both.0 both.1 (first-closed jobs other left c)
  where
    by_case : (b : Bool) → AreClosed (instances_of job.name c) c → (if b then [] else OfStart job ∷ []) ++ open_all jobs c ≡ OfStart other ∷ left
        → (open_all jobs c ≡ OfStart other ∷ left → AreClosed (instances_of other.name c) c) → AreClosed (instances_of other.name c) c
    by_case true closed first ih = ih first
    by_case false closed first ih =
        let same : job ≡ other = cc in
        subst (λ (j : JobDef). AreClosed (instances_of j.name c) c) same closed

named-closed : (name : Bytes) (p : ℕ) (its : List Instance) (c : Chronicle) → AreClosed its c → place_named name its ≡ Some p → is_open p c ≡ false
named-closed name p [] c all found = absurd cc
named-closed name p (x ∷ its) c all found = by_case (bytes_eq x.name name) found (named-closed name p its c all.1)
  where
    by_case : (b : Bool) → (if b then Some x.place else place_named name its) ≡ Some p → (place_named name its ≡ Some p → is_open p c ≡ false) → is_open p c ≡ false
    by_case true found ih =
        let same : x.place ≡ p = cc in
        subst (λ q. is_open q c ≡ false) same all.0
    by_case false found ih = ih found

-- the instance that a start concerns, if any
abbrev pub started_at : Who → Option ℕ → Chronicle → Option ℕ
started_at who None f = if nat_lt (length (instances_of who.job f)) max_instances then Some (length f) else None
started_at who (Some p) f = if not (is_start (goal p f)) then Some p else None

abbrev pub started_who : Option Who → Chronicle → Option ℕ
started_who None f = None
started_who (Some who) f = started_at who (instance_named who f) f

abbrev pub AfterStart : Option ℕ → List JobDef → (e : ℕ) → List Asked → Chronicle → Type 0
AfterStart None jobs e left c = IsHandling jobs e left c
AfterStart (Some i) jobs e left c = IsAt i jobs e left c

started-of : (jobs : List JobDef) (e : ℕ) (left : List Asked) (job : JobDef) (who : Who) (environment : Bindings) (its : List ℕ) (o : Option ℕ) (f : Chronicle) → IsHandling jobs e left f
    → ((p : ℕ) → o ≡ Some p → is_open p f ≡ false) → AfterStart (started_at who o f) jobs e left (start_of job who environment its o f ++ f)
started-of jobs e left job who environment its None f h closed = by_case (nat_lt (length (instances_of who.job f)) max_instances)
  where
    made : Chronicle
    made = Made job who.instance ∷ f

    at_made : IsAt (length f) jobs e left made
    at_made = record {
      open_left = open-made jobs job who.instance f ∙ h.open_left;
      handles = h.handles;
      closed = made-closed job who.instance f;
      stay = stay-made jobs job who.instance f (h.still (length f));
    }

    by_case : (b : Bool) → AfterStart (if b then Some (length f) else None) jobs e left (entries_if b (Aimed (length f) Start environment its ∷ Made job who.instance ∷ []) ++ f)
    by_case true = at-entries (length f) jobs e left (Aimed (length f) Start environment its ∷ []) made (refl, tt) at_made
    by_case false = h
started-of jobs e left job who environment its (Some p) f h closed = by_case (not (is_start (goal p f)))
  where
    at_f : IsAt p jobs e left f
    at_f = record { open_left = h.open_left; handles = h.handles; closed = closed p refl; stay = h.still p }

    by_case : (b : Bool) → AfterStart (if b then Some p else None) jobs e left (entries_if b (Aimed p Start environment its ∷ releasing p false f) ++ f)
    by_case true = at-entries p jobs e left (Aimed p Start environment its ∷ releasing p false f) f (refl, releasing-all (About p) (λ request answer. tt) p false tt f) at_f
    by_case false = h

started-who : (jobs : List JobDef) (e : ℕ) (left : List Asked) (job : JobDef) (name : Option Bytes) (environment : Bindings) (its : List ℕ) (f : Chronicle) → IsHandling jobs e left f
    → AreClosed (instances_of job.name f) f → AfterStart (started_who (who_called job.name name) f) jobs e left (start_who job environment its (who_called job.name name) f ++ f)
started-who jobs e left job None environment its f h closed = h
started-who jobs e left job (Some name) environment its f h closed =
    let who : Who = record { job = job.name; instance = name } in
    started-of jobs e left job who (with_instance who environment) its (place_named name (instances_of job.name f)) f h
    (λ p found. named-closed name p (instances_of job.name f) f closed found)

-- the name of the instance that a start by events concerns
abbrev pub start_name : Configuration → JobDef → List ℕ → Chronicle → Option Bytes
start_name config job events f = instance_name job (events_env (env_of_job config job.name) (events_at events f))

-- the instance that a firing of a `start on` concerns, if any
abbrev pub started : Configuration → JobDef → (e : ℕ) → Chronicle → Option ℕ
started config job e c =
    let d = Offered (StartOn job.name) e ∷ c in
    let events = taken job.start_on (seen config (StartOn job.name) d) in
    let f = Fired (StartOn job.name) events ∷ d in
    if holds job.start_on (seen config (StartOn job.name) d) then started_who (who_called job.name (start_name config job events f)) f else None

still-fired : (jobs : List JobDef) (e : ℕ) (left : List Asked) (x : Expression) (events : List ℕ) (c : Chronicle) → IsHandling jobs e left c → IsHandling jobs e left (Fired x events ∷ c)
still-fired jobs e left x events c h = record {
  open_left = Rattle.up_cascade.proofs.Opening.open-unmoved jobs x events c ∙ h.open_left;
  handles = h.handles;
  still = λ i. stay-entry i jobs (Fired x events) c tt (h.still i);
}

-- one of a `start on` that fires leaves the rest, and the instance that it concerns alone may move
pub after-start : (config : Configuration) (job : JobDef) (left : List Asked) (e : ℕ) (c : Chronicle) → IsHandling config.jobs e (OfStart job ∷ left) c → IsApart (OfStart job) left
    → AfterStart (started config job e c) config.jobs e left (start_offer config job e c ++ c)
after-start config job left e c h apart = by_case (holds job.start_on (seen config (StartOn job.name) d))
  where
    d : Chronicle
    d = Offered (StartOn job.name) e ∷ c

    events : List ℕ
    events = taken job.start_on (seen config (StartOn job.name) d)

    f : Chronicle
    f = Fired (StartOn job.name) events ∷ d

    offered : IsHandling config.jobs e left d
    offered = after-offer config.jobs (OfStart job) left e c h apart

    closed : AreClosed (instances_of job.name c) c
    closed = first-closed config.jobs job left c h.open_left

    same-closed : (its : List Instance) → AreClosed its c → AreClosed its f
    same-closed [] all = tt
    same-closed (x ∷ its) all = (all.0, same-closed its all.1)

    effect : List Entry
    effect = start_by config job events f

    fired : AfterStart (started_who (who_called job.name (start_name config job events f)) f) config.jobs e left (effect ++ f)
    fired = started-who config.jobs e left job (start_name config job events f) (start_env config (who_called job.name (start_name config job events f)) (events_at events f) f) events f (still-fired config.jobs e left (StartOn job.name) events d offered) (same-closed (instances_of job.name c) closed)

    order : ((effect ++ Fired (StartOn job.name) events ∷ []) ++ Offered (StartOn job.name) e ∷ []) ++ c ≡ effect ++ f
    order = append_assoc (effect ++ Fired (StartOn job.name) events ∷ []) (Offered (StartOn job.name) e ∷ []) c ∙ append_assoc effect (Fired (StartOn job.name) events ∷ []) d

    by_case : (b : Bool) → AfterStart (if b then started_who (who_called job.name (start_name config job events f)) f else None) config.jobs e left
        ((entries_if b (effect ++ Fired (StartOn job.name) events ∷ []) ++ Offered (StartOn job.name) e ∷ []) ++ c)
    by_case true = subst (AfterStart (started_who (who_called job.name (start_name config job events f)) f) config.jobs e left) (sym order) fired
    by_case false = offered

-- what is due is the first of these offers, and the step ends alike after it
pub due-offer : (config : Configuration) (a : Asked) (left : List Asked) (e : ℕ) (c : Chronicle) → IsHandling config.jobs e (a ∷ left) c
    → (due config c ≡ offer_at config a e c) × (rested config (offer_at config a e c ++ c) ≡ rested config c)
due-offer config a left e c h =
    let parts : or_else (move_first config.jobs c) (or_else (offer_next config (offering c) c) (answering_last c)) ≡ offer_at config a e c =
    rw (still-stay config.jobs c (h.still (length c)), h.handles, first-offer config config.jobs e c, h.open_left) (offer-filled config a e c (answering_last c)) in
    let one : due config c ≡ offer_at config a e c = due-by config c ∙ parts in
    (one, ap (λ es. rested config (es ++ c)) (sym one) ∙ rested-next config c)

-- a move of the instance leaves the rest to be offered, and the others where they are
emitting-about : (job : JobDef) (who : Who) (p : ℕ) (to : State) (kind : Option JobEvent) (c : Chronicle) → AllByRecursion (About p) (emitting job who p to kind c)
emitting-about job who p to None c = tt
emitting-about job who p to (Some kind) c = (refl, tt)

ordering-about : (job : JobDef) (p : ℕ) (its : Option Process) → AllByRecursion (About p) (ordering job p its)
ordering-about job p None = tt
ordering-about job p (Some its) = all-if (About p) (has_process job its) (Ordered p its ∷ []) (refl, tt)

pub enter-about : (job : JobDef) (who : Who) (p : ℕ) (to : State) (entry : table.EntryActions) (c : Chronicle) → AllByRecursion (About p) (enter_whole job who p to entry c)
enter-about job who p to entry c =
    all-append (About p) (entries_if entry.releases (releasing p false (enter job who p to entry c ++ c))) (enter job who p to entry c)
    (all-if (About p) entry.releases (releasing p false (enter job who p to entry c ++ c)) (releasing-all (About p) (λ request answer. tt) p false tt (enter job who p to entry c ++ c)))
    (all-append (About p) (entries_if (entry.kills && lives p process.Main c) (Signalled p job.kill_signal false ∷ [])) (emitting job who p to entry.emits (entered ++ c) ++ entered)
    (all-if (About p) (entry.kills && lives p process.Main c) (Signalled p job.kill_signal false ∷ []) (tt, tt))
    (all-append (About p) (emitting job who p to entry.emits (entered ++ c)) entered (emitting-about job who p to entry.emits (entered ++ c))
    (all-append (About p) (ordering job p entry.orders) (Entered p to ∷ []) (ordering-about job p entry.orders) (refl, tt))))
  where
    entered : List Entry
    entered = ordering job p entry.orders ++ Entered p to ∷ []

pub after-move : (jobs : List JobDef) (e : ℕ) (left : List Asked) (job : JobDef) (x : Instance) (c : Chronicle) → IsAt x.place jobs e left c → IsAt x.place jobs e left (move job x c ++ c)
after-move jobs e left job x c at =
    at-entries x.place jobs e left (move job x c) c
    (enter-about job (who_of job x) x.place (next_of job x.place c) (entering (next_of job x.place c) (state_of x.place c) job.task) c) at

-- what is due is its move, if it may, and the step ends alike after it
pub due-move : (config : Configuration) (e : ℕ) (left : List Asked) (place at : ℕ) (job : JobDef) (x : Instance) (c : Chronicle) → IsAt x.place config.jobs e left c → AreDistinct config.jobs
    → nth place config.jobs ≡ Some job → nth at (instances_of job.name c) ≡ Some x → may_leave x.file x.place c ≡ true
    → (due config c ≡ move x.file x c) × (rested config (move x.file x c ++ c) ≡ rested config c)
due-move config e left place at job x c h distinct there here may =
    let first : move_first config.jobs c ≡ move x.file x c = first-moves config.jobs place at job x c there here distinct h.stay ∙ ap (λ b. entries_if b (move x.file x c)) may in
    let other = or_else (offer_next config (offering c) c) (answering_last c) in
    let one : due config c ≡ move x.file x c = due-by config c ∙ ap (λ es. or_else es other) first ∙ or_else-some (move x.file x c) other (filled_move x.file x c) in
    (one, ap (λ es. rested config (es ++ c)) (sym one) ∙ rested-next config c)

-- when it may move no more, the next expression is offered the event
pub moves-done : (config : Configuration) (e : ℕ) (left : List Asked) (place at : ℕ) (job : JobDef) (x : Instance) (c : Chronicle) → IsAt x.place config.jobs e left c → AreDistinct config.jobs
    → nth place config.jobs ≡ Some job → nth at (instances_of job.name c) ≡ Some x → may_leave x.file x.place c ≡ false → IsHandling config.jobs e left c
moves-done config e left place at job x c h distinct there here stays =
    let none : move_first config.jobs c ≡ [] = first-moves config.jobs place at job x c there here distinct h.stay ∙ ap (λ b. entries_if b (move x.file x c)) stays in
    record { open_left = h.open_left; handles = h.handles; still = λ i. stay-still i config.jobs c none }
