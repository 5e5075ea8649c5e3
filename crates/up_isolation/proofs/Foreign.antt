-- What the instances and expressions of other jobs do isn't about the job.
use Rattle.std.proofs.Common.{◌≡◌, ℕ, ◌<◌, inl, Bool, true, false, ◌&&◌, List, [], ◌∷◌, ◌++◌, Option, None}
use Rattle.std.proofs.Common.{Some, length, if◌then◌else◌, bytes_eq, refl, sym, ◌∙◌, ap, subst, arith, eq-eqb}
use Rattle.std.specs.List.{AllByRecursion}
use Rattle.up_conf.specs.declared.job.JobDef.{JobDef}
use Rattle.up_expr.specs.Truth.{Sight}
use Rattle.up_stanza.specs.declared.process.Process.{Process}
use Rattle.up_stanza.specs.declared.process.Process.TheVariants.{Main}
use Rattle.up_model.specs.declared.event.Event.{Event}
use Rattle.up_model.specs.declared.state.State.{State}
use Rattle.up_model.specs.declared.who.Who.{Who}
use Rattle.up_model.specs.Chronicle.{Chronicle, Entry, Queued, Offered, Fired, Made, Aimed, Released, Entered}
use Rattle.up_model.specs.Chronicle.{Ordered, Signalled, Replied, Entering, StartOn, StopOn}
use Rattle.up_model.specs.Configuration.{Configuration}
use Rattle.up_model.specs.Instances.{Instance, instances_of}
use Rattle.up_model.specs.Readings.{entry_at, event_at, holders}
use Rattle.up_model.specs.Replies.{request_at}
use Rattle.up_model.specs.Seen.{seen}
use Rattle.up_model.specs.Values.{Bytes, Bindings}
use Rattle.up_model.proofs.NameLaws.{called}
use Rattle.up_isolation.specs.Views.{is_of, owns, was_asked}
use Rattle.up_isolation.proofs.Likes.{Like, Fair, fair_more}
use Rattle.std.proofs.Common.{append_assoc, not, nat_lt, option_to_list}
use Rattle.up_expr.specs.declared.expr.Leaf.{Leaf}
use Rattle.up_expr.specs.Matching.{matches}
use Rattle.up_expr.specs.Trees.{Tree, One, Both, Either}
use Rattle.up_expr.specs.Truth as truth
use Rattle.up_model.specs.declared.life.EntryActions as table
use Rattle.up_model.specs.declared.life.JobEvent.{JobEvent}
use Rattle.up_model.specs.declared.state.Goal.TheVariants.{Start}
use Rattle.up_model.specs.Environments.{env_of_job, instance_name}
use Rattle.up_model.specs.Events.{events_at, events_env, with_instance, stopped_by}
use Rattle.up_model.specs.Instances.{instance_named}
use Rattle.up_model.specs.Life.{entering}
use Rattle.up_model.specs.Moves.{has_process, who_of, emitting, ordering, enter, next_of, move}
use Rattle.up_model.specs.Offers.{stop_of, stop_by, stop_offer, max_instances, start_of, who_called, start_env}
use Rattle.up_model.specs.Offers.{start_who, start_by, start_offer}
use Rattle.up_model.specs.Predicates.{is_start, entries_if}
use Rattle.up_model.specs.Readings.{goal, event_of, made_of, state_of, lives}
use Rattle.up_model.specs.Replies.{request_in, status_of, answering_one, answering, releasing}
use Rattle.up_model.specs.Requests.{RequestValue}
use Rattle.up_model.specs.Seen.{holds, taken}
use Rattle.up_model.proofs.NameLaws.{made-named}
use Rattle.up_isolation.proofs.Sights.{AreKnown, event_of_sight}
use Rattle.up_isolation.proofs.Known.{seen-known, known-sights-later, entry-older}
use Rattle.up_isolation.proofs.Likes.{IsOther, IsForeign, AreForeign, foreign, foreign-later, foreign-fair}
use Rattle.up_isolation.proofs.Releases.{Extends, extends-append, extends-refl, entry-append}

-- an entry of what is due that is about another job
abbrev pub IsStrange : Bytes → Entry → Chronicle → Type 0
IsStrange job (Queued (Entering i to) event) c = IsOther job i c
IsStrange job (Offered (StartOn other) event) c = bytes_eq other job ≡ false
IsStrange job (Offered (StopOn i) event) c = IsOther job i c
IsStrange job (Fired (StartOn other) taken) c = bytes_eq other job ≡ false
IsStrange job (Fired (StopOn i) taken) c = owns job i c ≡ false
IsStrange job (Made file name) c =
    (bytes_eq file.name job ≡ false) × (instance_named (called file.name name) c ≡ None)
IsStrange job (Aimed i aim environment its) c = IsOther job i c × AreForeign job c its
IsStrange job (Released i failed) c = owns job i c ≡ false
IsStrange job (Entered i to) c = IsOther job i c
IsStrange job (Ordered i its) c = IsOther job i c
IsStrange job (Signalled i signal by_timer) c = IsOther job i c
IsStrange job (Replied request answer) c = was_asked job (request_at request c) ≡ false
IsStrange job e c = ⊥

pub strange-foreign : (job : Bytes) (config : Configuration) (e : Entry) (c : Chronicle) → IsStrange job e c
    → IsForeign job config e c
strange-foreign job config (Queued (Entering i to) event) c is = is
strange-foreign job config (Offered (StartOn other) event) c is = inl is
strange-foreign job config (Offered (StopOn i) event) c is = (is.1, inl is.0)
strange-foreign job config (Fired (StartOn other) taken) c is = is
strange-foreign job config (Fired (StopOn i) taken) c is = is
strange-foreign job config (Made file name) c is = is
strange-foreign job config (Aimed i aim environment its) c is = is
strange-foreign job config (Released i failed) c is = is
strange-foreign job config (Entered i to) c is = is
strange-foreign job config (Ordered i its) c is = is
strange-foreign job config (Signalled i signal by_timer) c is = is
strange-foreign job config (Replied request answer) c is = is
strange-foreign job config e c is = absurd is

-- several
abbrev pub AreStrange : Bytes → List Entry → Chronicle → Type 0
AreStrange job [] c = Unit {0}
AreStrange job (e ∷ es) c = IsStrange job e (es ++ c) × AreStrange job es c

pub strange-append : (job : Bytes) (es fs c : List Entry) → AreStrange job es (fs ++ c) → AreStrange job fs c
    → AreStrange job (es ++ fs) c
strange-append job [] fs c are other = other
strange-append job (e ∷ es) fs c are other = (
  subst (λ t. IsStrange job e t) (sym (append_assoc es fs c))
      are.0,
  strange-append job es fs c are.1 other,
)

pub like-strange : (job : Bytes) (config : Configuration) (es : List Entry) (c d : Chronicle)
    → AreStrange job es c → Like job config c d → Like job config (es ++ c) d
like-strange job config [] c d are like = like
like-strange job config (e ∷ es) c d are like = foreign job config e (es ++ c) d
    (strange-foreign job config e (es ++ c) are.0) (like-strange job config es c d are.1 like)

pub fair-strange : (job : Bytes) (config : Configuration) (es : List Entry) (c : Chronicle)
    → AreStrange job es c → Fair job c → Fair job (es ++ c)
fair-strange job config [] c are fair = fair
fair-strange job config (e ∷ es) c are fair =
    fair_more job e (es ++ c) (fair-strange job config es c are.1 fair)
    (foreign-fair job config e (es ++ c) (strange-foreign job config e (es ++ c) are.0))

pub other-later : (job : Bytes) (i : ℕ) (es c : List Entry) → IsOther job i c → IsOther job i (es ++ c)
other-later job i es c other =
    let more = entry-append i es c other.1 in
    (ap (λ o. is_of job (made_of o)) more.1 ∙ other.0, more.0)

pub all-foreign-later : (job : Bytes) (es c : List Entry) (ps : List ℕ) → AreForeign job c ps
    → AreForeign job (es ++ c) ps
all-foreign-later job [] c ps are = are
all-foreign-later job (e ∷ es) c ps are = foreign-later job e (es ++ c) ps (all-foreign-later job es c ps are)

strange-if : (job : Bytes) (b : Bool) (es : List Entry) (c : Chronicle) → AreStrange job es c
    → AreStrange job (entries_if b es) c
strange-if job true es c are = are
strange-if job false es c are = tt

-- releases
strange-one : (job : Bytes) (p : ℕ) (o : Option RequestValue) (failed : Bool) (text : Bytes)
    (later : Chronicle) → request_at p later ≡ o → was_asked job o ≡ false
    → AreStrange job (answering_one p o failed text) later
strange-one job p None failed text later is other = tt
strange-one job p (Some request) failed text later is other = (ap (was_asked job) is ∙ other, tt)

strange-answering : (job : Bytes) (ps : List ℕ) (failed : Bool) (text : Bytes) (c later : Chronicle)
    → AreForeign job c ps → Extends c later → AreStrange job (answering ps failed text c) later
strange-answering job [] failed text c later are ext = tt
strange-answering job (p ∷ ps) failed text c later are ext =
    strange-append job (answering ps failed text c) (answering_one p (request_at p c) failed text) later
    (strange-answering job ps failed text c (answering_one p (request_at p c) failed text ++ later) are.1
    (extends-append (answering_one p (request_at p c) failed text) c later ext))
    (strange-one job p (request_at p c) failed text later (ap request_in (ext p are.0.0).1) are.0.1)

pub strange-releasing : (job : Bytes) (i : ℕ) (failed : Bool) (c : Chronicle) → Fair job c
    → owns job i c ≡ false → AreStrange job (releasing i failed c) c
strange-releasing job i failed c fair other =
    strange-append job (answering (holders i c) failed (status_of i c) c) (Released i failed ∷ []) c
    (strange-answering job (holders i c) failed (status_of i c) c (Released i failed ∷ c)
    (fair.holders i other) (extends-append (Released i failed ∷ []) c c (extends-refl c))) (other, tt)

-- moves
strange-ordering : (job : Bytes) (def : JobDef) (i : ℕ) (o : Option Process) (c : Chronicle) → IsOther job i c
    → AreStrange job (ordering def i o) c
strange-ordering job def i None c other = tt
strange-ordering job def i (Some its) c other =
    strange-if job (has_process def its) (Ordered i its ∷ []) c (other, tt)

strange-emitting : (job : Bytes) (def : JobDef) (who : Who) (i : ℕ) (to : State) (o : Option JobEvent)
    (c : Chronicle) → IsOther job i c → AreStrange job (emitting def who i to o c) c
strange-emitting job def who i to None c other = tt
strange-emitting job def who i to (Some kind) c other = (other, tt)

strange-enter : (job : Bytes) (def : JobDef) (who : Who) (i : ℕ) (to : State) (entry : table.EntryActions)
    (c : Chronicle) → IsOther job i c → AreStrange job (enter def who i to entry c) c
strange-enter job def who i to entry c other =
    strange-append job (entries_if (entry.kills && lives i Main c) (Signalled i def.kill_signal false ∷ []))
    (emitting def who i to entry.emits (one ++ c) ++ one) c
    (strange-if job (entry.kills && lives i Main c) (Signalled i def.kill_signal false ∷ []) _
    (other-later job i (emitting def who i to entry.emits (one ++ c) ++ one) c other, tt))
    (strange-append job (emitting def who i to entry.emits (one ++ c)) one c
    (strange-emitting job def who i to entry.emits (one ++ c) (other-later job i one c other))
    (strange-append job (ordering def i entry.orders) (Entered i to ∷ []) c
    (strange-ordering job def i entry.orders (Entered i to ∷ c)
    (other-later job i (Entered i to ∷ []) c other)) (other, tt)))
  where
    one : List Entry
    one = ordering def i entry.orders ++ Entered i to ∷ []

pub strange-move : (job : Bytes) (config : Configuration) (def : JobDef) (x : Instance) (c : Chronicle)
    → Fair job c → IsOther job x.place c → AreStrange job (move def x c) c
strange-move job config def x c fair other =
    strange-append job (entries_if entry.releases (releasing x.place false (one ++ c))) one c
    (strange-if job entry.releases (releasing x.place false (one ++ c)) (one ++ c)
    (strange-releasing job x.place false (one ++ c) (fair-strange job config one c first fair)
    (other-later job x.place one c other).0)) first
  where
    to : State
    to = next_of def x.place c

    entry : table.EntryActions
    entry = entering to (state_of x.place c) def.task

    one : List Entry
    one = enter def (who_of def x) x.place to entry c

    first : AreStrange job one c
    first = strange-enter job def (who_of def x) x.place to entry c other

-- what is taken is made of what was seen
first-all : (P : ℕ → Type 0) (leaf : Leaf) (ss : List Sight) → AllByRecursion (λ s. P s.event) ss
    → AllByRecursion P (option_to_list (truth.first leaf ss))
first-all P leaf [] all = tt
first-all P leaf (s ∷ ss) all = by_case (matches leaf s.name s.vars s.env) (first-all P leaf ss all.1)
  where
    by_case : (b : Bool) → AllByRecursion P (option_to_list (truth.first leaf ss))
        → AllByRecursion P (option_to_list (if b then Some s.event else truth.first leaf ss))
    by_case true ih = (all.0, tt)
    by_case false ih = ih

all-both : (P : ℕ → Type 0) (ps qs : List ℕ) → AllByRecursion P ps → AllByRecursion P qs
    → AllByRecursion P (ps ++ qs)
all-both P [] qs all other = other
all-both P (p ∷ ps) qs all other = (all.0, all-both P ps qs all.1 other)

tree-all : (P : ℕ → Type 0) (tree : Tree) (ss : List Sight) → AllByRecursion (λ s. P s.event) ss
    → AllByRecursion P (truth.taken tree ss)
tree-all P (One leaf) ss all = first-all P leaf ss all
tree-all P (Both left right) ss all =
    by_case (truth.holds left ss && truth.holds right ss) (tree-all P left ss all) (tree-all P right ss all)
  where
    by_case : (b : Bool) → AllByRecursion P (truth.taken left ss) → AllByRecursion P (truth.taken right ss)
        → AllByRecursion P (if b then truth.taken left ss ++ truth.taken right ss else [])
    by_case true one other = all-both P (truth.taken left ss) (truth.taken right ss) one other
    by_case false one other = tt
tree-all P (Either left right) ss all =
    all-both P (truth.taken left ss) (truth.taken right ss) (tree-all P left ss all) (tree-all P right ss all)

taken-all : (P : ℕ → Type 0) (o : Option Tree) (ss : List Sight) → AllByRecursion (λ s. P s.event) ss
    → AllByRecursion P (taken o ss)
taken-all P None ss all = tt
taken-all P (Some tree) ss all = tree-all P tree ss all

-- an event is no request
event-foreign : (job : Bytes) (p : ℕ) (c : Chronicle) (event : Event) → event_at p c ≡ Some event
    → (p < length c) × (was_asked job (request_at p c) ≡ false)
event-foreign job p c event some = by_case (entry_at p c) refl
  where
    by_entry : (e : Entry) → event_of (Some e) ≡ Some event → was_asked job (request_in (Some e)) ≡ false
    by_entry (Queued origin its) is = refl
    by_entry e is = absurd (cc)

    by_case : (o : Option Entry) → entry_at p c ≡ o
        → (p < length c) × (was_asked job (request_at p c) ≡ false)
    by_case None none =
        let bad : event_of None ≡ Some event = subst (λ w. event_of w ≡ Some event) none some in absurd (cc)
    by_case (Some e) is = (
      entry-older p c e is,
      ap (λ o. was_asked job (request_in o)) is
          ∙ by_entry e (ap event_of (sym is) ∙ some),
    )

sights-foreign : (job : Bytes) (c : Chronicle) (ss : List Sight) → AreKnown c ss
    → AllByRecursion (λ s. (s.event < length c) × (was_asked job (request_at s.event c) ≡ false)) ss
sights-foreign job c [] known = tt
sights-foreign job c (s ∷ ss) known =
    (event-foreign job s.event c (event_of_sight s) known.0, sights-foreign job c ss known.1)

pub taken-foreign : (job : Bytes) (o : Option Tree) (ss : List Sight) (c : Chronicle) → AreKnown c ss
    → AreForeign job c (taken o ss)
taken-foreign job o ss c known = taken-all (λ p. (p < length c) × (was_asked job (request_at p c) ≡ false)) o
    ss (sights-foreign job c ss known)

-- a stop
strange-stop_by : (job : Bytes) (config : Configuration) (i : ℕ) (ps : List ℕ) (c : Chronicle) → Fair job c
    → IsOther job i c → AreForeign job c ps → AreStrange job (stop_by i ps c) c
strange-stop_by job config i ps c fair other are =
    strange-if job (is_start (goal i c)) (stop_of i (stopped_by (events_at ps c)) ps c) c (
      (other-later job i (releasing i false c) c other, all-foreign-later job (releasing i false c) c ps are),
      strange-releasing job i false c fair other.0,
    )

pub strange-stop_offer : (job : Bytes) (config : Configuration) (def : JobDef) (i event : ℕ) (c : Chronicle)
    → Fair job c → IsOther job i c
    → AreStrange job (stop_offer config def i event c) c
strange-stop_offer job config def i event c fair other =
    strange-append job (entries_if (holds def.stop_on ss) (stop_by i ps fired ++ Fired (StopOn i) ps ∷ []))
    (Offered (StopOn i) event ∷ []) c
    (strange-if job (holds def.stop_on ss) (stop_by i ps fired ++ Fired (StopOn i) ps ∷ []) offered
    (strange-append job (stop_by i ps fired) (Fired (StopOn i) ps ∷ []) offered
    (strange-stop_by job config i ps fired
    (fair-strange job config (Fired (StopOn i) ps ∷ Offered (StopOn i) event ∷ []) c
    ((here.0, (other, tt))) fair) (other-later job i (Fired (StopOn i) ps ∷ Offered (StopOn i) event ∷ [])
    c other)
    (taken-foreign job def.stop_on ss fired
    (known-sights-later (Fired (StopOn i) ps) offered ss (seen-known config (StopOn i) offered))))
    (here.0, tt)))
    (other, tt)
  where
    offered : Chronicle
    offered = Offered (StopOn i) event ∷ c

    ss : List Sight
    ss = seen config (StopOn i) offered

    ps : List ℕ
    ps = taken def.stop_on ss

    fired : Chronicle
    fired = Fired (StopOn i) ps ∷ offered

    here : IsOther job i offered
    here = other-later job i (Offered (StopOn i) event ∷ []) c other

-- a start
pub strange-start_of : (job : Bytes) (def : JobDef) (who : Who) (environment : Bindings) (ps : List ℕ) (o : Option ℕ)
    (c : Chronicle) → Fair job c → who.job ≡ def.name → bytes_eq who.job job ≡ false → AreForeign job c ps
    → instance_named who c ≡ o → AreStrange job (start_of def who environment ps o c) c
strange-start_of job def who environment ps None c fair named other are is =
    strange-if job (nat_lt (length (instances_of who.job c)) max_instances)
    (Aimed (length c) Start environment ps ∷ Made def who.instance ∷ []) c (
      (
        (rw (eq-eqb (length c) (length c) refl) away, omega arith),
        foreign-later job
            (Made def who.instance) c ps are,
      ),
      ((away, ap (λ k. instance_named (called k who.instance) c) (sym named) ∙ is), tt),
    )
  where
    away : bytes_eq def.name job ≡ false
    away = ap (λ k. bytes_eq k job) (sym named) ∙ other
strange-start_of job def who environment ps (Some i) c fair named other are is =
    let made = made-named who i c is in
    let is_other : IsOther job i c = (ap (is_of job) made.1 ∙ other, made.0) in
    strange-if job (not (is_start (goal i c))) (Aimed i Start environment ps ∷ releasing i false c) c (
      (
        other-later job i (releasing i false c) c is_other,
        all-foreign-later job (releasing i false c) c ps
            are,
      ),
      strange-releasing job i false c fair is_other.0,
    )

strange-start_who : (job : Bytes) (def : JobDef) (environment : Bindings) (ps : List ℕ) (o : Option Bytes)
    (c : Chronicle) → Fair job c → bytes_eq def.name job ≡ false → AreForeign job c ps
    → AreStrange job (start_who def environment ps (who_called def.name o) c) c
strange-start_who job def environment ps None c fair other are = tt
strange-start_who job def environment ps (Some its) c fair other are =
    strange-start_of job def (called def.name its) (with_instance (called def.name its) environment) ps
    (instance_named (called def.name its) c) c fair refl other are refl

pub strange-start_offer : (job : Bytes) (config : Configuration) (def : JobDef) (event : ℕ) (c : Chronicle)
    → Fair job c → bytes_eq def.name job ≡ false
    → AreStrange job (start_offer config def event c) c
strange-start_offer job config def event c fair other =
    strange-append job (entries_if (holds def.start_on ss)
    (start_by config def ps fired ++ Fired (StartOn def.name) ps ∷ []))
    (Offered (StartOn def.name) event ∷ []) c
    (strange-if job (holds def.start_on ss) (start_by config def ps fired ++ Fired (StartOn def.name) ps ∷ [])
    offered
    (strange-append job (start_by config def ps fired) (Fired (StartOn def.name) ps ∷ []) offered
    (strange-start_who job def (start_env config (who_called def.name name) (events_at ps fired) fired) ps
    name fired
    (fair-strange job config (Fired (StartOn def.name) ps ∷ Offered (StartOn def.name) event ∷ []) c
    (other, (other, tt)) fair) other
    (taken-foreign job def.start_on ss fired (known-sights-later (Fired (StartOn def.name) ps) offered ss
    (seen-known config (StartOn def.name) offered)))) (other, tt)))
    (other, tt)
  where
    offered : Chronicle
    offered = Offered (StartOn def.name) event ∷ c

    ss : List Sight
    ss = seen config (StartOn def.name) offered

    ps : List ℕ
    ps = taken def.start_on ss

    fired : Chronicle
    fired = Fired (StartOn def.name) ps ∷ offered

    name : Option Bytes
    name = instance_name def (events_env (env_of_job config def.name) (events_at ps fired))
