-- The life of an instance: all that is read of it beside its holders and what its `stop on` has seen, in one
-- value without places; which entries leave it alone, and that the others change it by what they say and by
-- the life alone.
use Rattle.std.proofs.Common.{◌≡◌, ℕ, ◌+◌, ◌-◌, nat_lt, ◌<◌, ◌≤◌, ◌==◌, Bool, true, false, List, [], ◌∷◌}
use Rattle.std.proofs.Common.{Option, None, Some, is_some, length, if◌then◌else◌, refl, sym, ◌∙◌, ap, arith}
use Rattle.std.proofs.Common.{eq-eqb, ne_eqb}
use mathlib.Core.Path.{fun_ext}
use Rattle.up_stanza.specs.declared.process.Process.{Process}
use Rattle.up_conf.specs.declared.job.JobDef.{JobDef}
use Rattle.up_model.specs.declared.event.Event.{Event}
use Rattle.up_model.specs.declared.failure.Failure.{Failure}
use Rattle.up_model.specs.declared.input.Input.{Input}
use Rattle.up_model.specs.declared.input.Input.TheVariants as input
use Rattle.up_model.specs.declared.state.Goal.{Goal}
use Rattle.up_model.specs.declared.state.Goal.TheVariants.{Start, Stop}
use Rattle.up_model.specs.declared.state.State.{State}
use Rattle.up_model.specs.declared.state.State.TheVariants as state
use Rattle.up_model.specs.declared.who.Who.{Who}
use Rattle.up_model.specs.Chronicle.{Chronicle, Entry, Given, Queued, Finished, Made, Aimed, Restarted}
use Rattle.up_model.specs.Chronicle.{Failed, Respawned, Entered, Ordered, Signalled, Entering}
use Rattle.up_model.specs.Clock.{now, respawns, kill_moment}
use Rattle.up_model.specs.Predicates.{same_process}
use Rattle.up_model.specs.Readings.{made_at, goal, state_of, was_restarted, pending_env, env, stop_env}
use Rattle.up_model.specs.Readings.{failure, blocker, without, is_blocking, speaks_of, is_awaited, pid_of}
use Rattle.up_model.specs.Values.{Bytes, Bindings}

pub record Life : Type 0 where
  pub goal : Goal
  pub state : State
  pub restarted : Bool
  pub pending : Bindings
  pub env : Bindings
  pub stop_env : Bindings
  pub failure : Option Failure
  pub blocked : Bool
  pub awaited : Process → Bool
  pub pid : Process → Option ℕ
  pub respawns : (today span : ℕ) → ℕ
  pub kill : Option ℕ

abbrev pub life : ℕ → Chronicle → Life
life i c = record {
  goal = goal i c;
  state = state_of i c;
  restarted = was_restarted i c;
  pending = pending_env i c;
  env = env i c;
  stop_env = stop_env i c;
  failure = failure i c;
  blocked = is_some (blocker i c);
  awaited = λ its. is_awaited i its c;
  pid = λ its. pid_of i its c;
  respawns = λ today span. respawns i today span c;
  kill = kill_moment i c;
}

-- entries that leave the life of an instance alone
abbrev pub IsAside : ℕ → Entry → Chronicle → Type 0
IsAside i (Given (input.Spawned who its pid)) c =
    (process : Process) → speaks_of (made_at i c) process who its ≡ false
IsAside i (Given (input.Refused who its)) c =
    (process : Process) → speaks_of (made_at i c) process who its ≡ false
IsAside i (Given (input.Ended who its how)) c =
    (process : Process) → speaks_of (made_at i c) process who its ≡ false
IsAside i (Queued (Entering other entered) event) c = (other == i) ≡ false
IsAside i (Finished event) c = is_some (without event (blocker i c)) ≡ is_some (blocker i c)
IsAside i (Made file name) c = (length c == i) ≡ false
IsAside i (Aimed other aim environment its) c = (other == i) ≡ false
IsAside i (Restarted other its) c = (other == i) ≡ false
IsAside i (Failed other its) c = (other == i) ≡ false
IsAside i (Respawned other moment) c = (other == i) ≡ false
IsAside i (Entered other entered) c = (other == i) ≡ false
IsAside i (Ordered other its) c = (other == i) ≡ false
IsAside i (Signalled other signal by_timer) c = (other == i) ≡ false
IsAside i entry c = Unit {0}

awaited-aside : (i : ℕ) (who : Who) (its : Process) (c : Chronicle)
    → ((process : Process) → speaks_of (made_at i c) process who its ≡ false)
    → ◌≡◌ {A = Process → Bool} (λ process. if speaks_of (made_at i c) process who its then false
    else is_awaited i process c) (λ process. is_awaited i process c)
awaited-aside i who its c h = fun_ext (λ process. rw (h process) refl)

pid-aside : (i : ℕ) (who : Who) (its : Process) (found : Option ℕ) (c : Chronicle)
    → ((process : Process) → speaks_of (made_at i c) process who its ≡ false)
    → ◌≡◌ {A = Process → Option ℕ} (λ process. if speaks_of (made_at i c) process who its then found
    else pid_of i process c) (λ process. pid_of i process c)
pid-aside i who its found c h = fun_ext (λ process. rw (h process) refl)

pub aside : (i : ℕ) (e : Entry) (c : Chronicle) → IsAside i e c → life i (e ∷ c) ≡ life i c
aside i (Given (input.Spawned who its pid)) c h =
    ap (λ (a : Process → Bool). record (life i (Given (input.Spawned who its pid) ∷ c)) { awaited = a })
    (awaited-aside i who its c h)
    ∙ ap (λ (a : Process → Option ℕ). record (life i c) { pid = a }) (pid-aside i who its (Some pid) c h)
aside i (Given (input.Refused who its)) c h =
    ap (λ (a : Process → Bool). record (life i c) { awaited = a }) (awaited-aside i who its c h)
aside i (Given (input.Ended who its how)) c h =
    ap (λ (a : Process → Option ℕ). record (life i c) { pid = a }) (pid-aside i who its None c h)
aside i (Given given) c h = refl
aside i (Queued (Entering other entered) event) c h = rw h refl
aside i (Queued origin event) c h = refl
aside i (Finished event) c h = ap (λ (b : Bool). record (life i c) { blocked = b }) h
aside i (Made file name) c h = rw h refl
aside i (Aimed other Start environment its) c h = rw h refl
aside i (Aimed other Stop environment its) c h = rw h refl
aside i (Restarted other its) c h = rw h refl
aside i (Failed other its) c h = rw h refl
aside i (Respawned other moment) c h = rw h refl
aside i (Entered other state.Starting) c h = rw h refl
aside i (Entered other entered) c h = rw h refl
aside i (Ordered other its) c h = rw h refl
aside i (Signalled other signal true) c h = rw h refl
aside i (Signalled other signal false) c h = rw h refl
aside i entry c h = refl

-- the others: they do to lives that are alike the same

pub aimed : (i j : ℕ) (c d : Chronicle) (aim : Goal) (environment : Bindings) (its others : List ℕ)
    → life i c ≡ life j d
    → life i (Aimed i aim environment its ∷ c) ≡ life j (Aimed j aim environment others ∷ d)
aimed i j c d Start environment its others same =
    rw (eq-eqb i i refl, eq-eqb j j refl)
    (ap (λ (l : Life). record l { goal = Start; pending = environment; stop_env = [] }) same)
aimed i j c d Stop environment its others same =
    rw (eq-eqb i i refl, eq-eqb j j refl) (ap (λ (l : Life). record l { goal = Stop; stop_env = environment })
    same)

pub restarted : (i j : ℕ) (c d : Chronicle) (its others : List ℕ) → life i c ≡ life j d
    → life i (Restarted i its ∷ c) ≡ life j (Restarted j others ∷ d)
restarted i j c d its others same =
    rw (eq-eqb i i refl, eq-eqb j j refl) (ap (λ (l : Life). record l { restarted = true }) same)

pub failed : (i j : ℕ) (c d : Chronicle) (its : Failure) → life i c ≡ life j d
    → life i (Failed i its ∷ c) ≡ life j (Failed j its ∷ d)
failed i j c d its same =
    rw (eq-eqb i i refl, eq-eqb j j refl) (ap (λ (l : Life). record l { failure = Some its }) same)

pub entered : (i j : ℕ) (c d : Chronicle) (to : State) → life i c ≡ life j d
    → life i (Entered i to ∷ c) ≡ life j (Entered j to ∷ d)
entered i j c d state.Starting same =
    rw (eq-eqb i i refl, eq-eqb j j refl)
    (ap (λ (l : Life). record l {
      state = state.Starting;
      restarted = false;
      env = l.pending;
      failure =
          None;
      kill = None;
    }) same)
entered i j c d to same =
    rw (eq-eqb i i refl, eq-eqb j j refl)
    (ap (λ (l : Life). record l { state = to; restarted = false; kill = None }) same)

pub respawned : (i j moment : ℕ) (c d : Chronicle) → life i c ≡ life j d
    → life i (Respawned i moment ∷ c) ≡ life j (Respawned j moment ∷ d)
respawned i j moment c d same =
    rw (eq-eqb i i refl, eq-eqb j j refl)
    (ap (λ (l : Life). record l {
      respawns = λ today span. if nat_lt (today - moment) span
          then l.respawns today span + 1 else l.respawns today span;
    }) same)

pub ordered : (i j : ℕ) (c d : Chronicle) (process : Process) → life i c ≡ life j d
    → life i (Ordered i process ∷ c) ≡ life j (Ordered j process ∷ d)
ordered i j c d process same =
    rw (eq-eqb i i refl, eq-eqb j j refl)
    (ap (λ (l : Life). record l { awaited = λ its. if same_process process its then true else l.awaited its })
    same)

pub signalled : (i j : ℕ) (c d : Chronicle) (signal : ℕ) (by_timer : Bool) → now c ≡ now d
    → life i c ≡ life j d
    → life i (Signalled i signal by_timer ∷ c) ≡ life j (Signalled j signal by_timer ∷ d)
signalled i j c d signal true today same =
    rw (eq-eqb i i refl, eq-eqb j j refl) (ap (λ (l : Life). record l { kill = None }) same)
signalled i j c d signal false today same =
    rw (eq-eqb i i refl, eq-eqb j j refl, today) (ap (λ (l : Life). record l { kill = Some (now d) }) same)

pub queued : (i j : ℕ) (c d : Chronicle) (to : State) (event other : Event) → life i c ≡ life j d
    → life i (Queued (Entering i to) event ∷ c) ≡ life j (Queued (Entering j to) other ∷ d)
queued i j c d to event other same = rw (eq-eqb i i refl, eq-eqb j j refl) (by_case (is_blocking to))
  where
    by_case : (b : Bool)
        → record (life i c) { blocked = is_some (if b then Some (length c) else blocker i c) }
        ≡ record (life j d) { blocked = is_some (if b then Some (length d) else blocker j d) }
    by_case true = ap (λ (l : Life). record l { blocked = true }) same
    by_case false = same

-- the event that it waited for has finished
pub unblocked : (i j event other : ℕ) (c d : Chronicle) → is_some (without event (blocker i c)) ≡ false
    → is_some (without other (blocker j d)) ≡ false
    → life i c ≡ life j d → life i (Finished event ∷ c) ≡ life j (Finished other ∷ d)
unblocked i j event other c d none void same =
    ap (λ (b : Bool). record (life i c) { blocked = b }) none
    ∙ ap (λ (l : Life). record l { blocked = false }) same
    ∙ sym (ap (λ (b : Bool). record (life j d) { blocked = b }) void)

pub given : (i j : ℕ) (c d : Chronicle) (input : Input) → made_at i c ≡ made_at j d → life i c ≡ life j d
    → life i (Given input ∷ c) ≡ life j (Given input ∷ d)
given i j c d (input.Spawned who its pid) made same =
    rw made (ap (λ (l : Life). record l {
      awaited = λ process. if speaks_of (made_at j d) process who its then false else l.awaited process;
      pid = λ process. if speaks_of (made_at j d) process who its then Some pid else l.pid process;
    }) same)
given i j c d (input.Refused who its) made same =
    rw made (ap (λ (l : Life). record l {
      awaited = λ process. if speaks_of (made_at j d) process who its
          then false else l.awaited process;
    }) same)
given i j c d (input.Ended who its how) made same =
    rw made (ap (λ (l : Life). record l {
      pid = λ process. if speaks_of (made_at j d) process who its
          then None else l.pid process;
    }) same)
given i j c d input made same = same

-- nothing is read of what isn't made yet
abbrev pub Blank : Chronicle → Type 0
Blank c = (p : ℕ) → length c ≤ p → life p c ≡ life 0 []

pub blank_nil : Blank []
blank_nil p h = refl

-- entries about instances that were made
abbrev pub IsOld : Entry → Chronicle → Type 0
IsOld (Queued (Entering other entered) event) c = other < length c
IsOld (Aimed other aim environment its) c = other < length c
IsOld (Restarted other its) c = other < length c
IsOld (Failed other its) c = other < length c
IsOld (Respawned other moment) c = other < length c
IsOld (Entered other entered) c = other < length c
IsOld (Ordered other its) c = other < length c
IsOld (Signalled other signal by_timer) c = other < length c
IsOld entry c = Unit {0}

pub made-none : (p : ℕ) (c : Chronicle) → length c ≤ p → made_at p c ≡ None
made-none p [] h = refl
made-none p (e ∷ c) h = rw (ne_eqb (length c) p (λ same. omega arith)) (made-none p c (omega arith))

no-blocker : (event : ℕ) (o : Option ℕ) → is_some o ≡ false → is_some (without event o) ≡ is_some o
no-blocker event None none = refl
no-blocker event (Some other) none = absurd (cc)

younger : (i p n : ℕ) → i < n → n ≤ p → (i == p) ≡ false
younger i p n h k = ne_eqb i p (λ same. omega arith)

old-aside : (p : ℕ) (e : Entry) (c : Chronicle) → Blank c → IsOld e c → length c < p → IsAside p e c
old-aside p (Given (input.Spawned who its pid)) c blank old h =
    λ process. rw (made-none p c (omega arith)) refl
old-aside p (Given (input.Refused who its)) c blank old h = λ process. rw (made-none p c (omega arith)) refl
old-aside p (Given (input.Ended who its how)) c blank old h = λ process. rw (made-none p c (omega arith)) refl
old-aside p (Queued (Entering other entered) event) c blank old h =
    younger other p (length c) old (omega arith)
old-aside p (Finished event) c blank old h =
    no-blocker event (blocker p c) (ap (λ (l : Life). l.blocked) (blank p (omega arith)))
old-aside p (Made file name) c blank old h = ne_eqb (length c) p (λ same. omega arith)
old-aside p (Aimed other aim environment its) c blank old h = younger other p (length c) old (omega arith)
old-aside p (Restarted other its) c blank old h = younger other p (length c) old (omega arith)
old-aside p (Failed other its) c blank old h = younger other p (length c) old (omega arith)
old-aside p (Respawned other moment) c blank old h = younger other p (length c) old (omega arith)
old-aside p (Entered other entered) c blank old h = younger other p (length c) old (omega arith)
old-aside p (Ordered other its) c blank old h = younger other p (length c) old (omega arith)
old-aside p (Signalled other signal by_timer) c blank old h = younger other p (length c) old (omega arith)
old-aside p e c blank old h = tt

pub blank_more : (e : Entry) (c : Chronicle) → Blank c → IsOld e c → Blank (e ∷ c)
blank_more e c blank old =
    λ p h. aside p e c (old-aside p e c blank old (omega arith)) ∙ blank p (omega arith)

-- a new instance begins alike everywhere
pub made : (file : JobDef) (name : Bytes) (c d : Chronicle) → Blank c → Blank d
    → life (length c) (Made file name ∷ c) ≡ life (length d) (Made file name ∷ d)
made file name c d blank other =
    rw (eq-eqb (length c) (length c) refl, eq-eqb (length d) (length d) refl)
    (ap (λ (l : Life). record l { awaited = λ its. false; pid = λ its. None }) (blank (length c) (omega arith)
    ∙ sym (other (length d) (omega arith))))
