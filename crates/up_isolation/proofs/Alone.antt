-- The job alone: what it does by what comes to its notice, and nothing else.
use Rattle.std.proofs.Common.{◌≡◌, ℕ, ◌<◌, Bool, true, false, List, [], ◌∷◌, ◌++◌, Option, None, Some, length}
use Rattle.std.proofs.Common.{bytes_eq, refl, sym, ◌∙◌, ap, subst, arith, eq-eqb}
use Rattle.std.specs.List.{AllByRecursion}
use Rattle.up_conf.specs.declared.job.JobDef.{JobDef}
use Rattle.up_stanza.specs.declared.process.Process.{Process}
use Rattle.up_model.specs.declared.event.Event.{Event}
use Rattle.up_model.specs.declared.who.Who.{Who}
use Rattle.up_model.specs.Chronicle.{Chronicle, Entry, Given, Queued, Handled, Finished, Loaded, Outside}
use Rattle.up_model.specs.Configuration.{Configuration}
use Rattle.up_model.specs.Instances.{Instance, instances_of}
use Rattle.up_model.specs.Replies.{request_at}
use Rattle.up_model.specs.Values.{Bytes}
use Rattle.up_model.proofs.Places.{bytes_same}
use Rattle.up_model.proofs.NameLaws.{called}
use Rattle.up_isolation.specs.Views.{Notice, is_of, was_asked}
use Rattle.up_isolation.proofs.Likes.{only, Like, fair_more}
use Rattle.std.proofs.Common.{append_assoc, suc}
use Rattle.up_model.specs.declared.input.Input.{Input}
use Rattle.up_model.specs.declared.input.Input.TheVariants as input
use Rattle.up_model.specs.declared.failure.End.{End}
use Rattle.up_model.specs.declared.failure.End.TheVariants as end
use Rattle.up_model.specs.declared.process.How.{How}
use Rattle.up_model.specs.Due.{due, effect, end_of, end_by}
use Rattle.up_model.specs.Files.{own_file, names_in_order}
use Rattle.up_model.specs.Instances.{instance_named}
use Rattle.up_model.specs.Moves.{move_first}
use Rattle.up_model.specs.Offers.{offering}
use Rattle.up_model.specs.Predicates.{or_else}
use Rattle.up_model.specs.Readings.{blocker}
use Rattle.up_model.specs.Replies.{asked}
use Rattle.up_model.specs.Work.{work, settle}
use Rattle.up_model.proofs.NameLaws.{made-named}
use Rattle.up_model.proofs.Sparing.{all-weaker}
use Rattle.up_isolation.specs.Views.{Received, Arrived, Unblocked, Replaced, concerns}
use Rattle.up_isolation.proofs.Likes.{IsOther, foreign, owns-later}
use Rattle.up_isolation.proofs.Locals.{NotGiven, silent-more}
use Rattle.up_isolation.proofs.Steps.{like_given}
use Rattle.up_isolation.proofs.Offering.{pair-at, found, Found, Neither, Two, own_file-same}
use Rattle.up_isolation.proofs.Ends.{IsMute, pair_end, apart-end, mute-end}
use Rattle.up_isolation.proofs.Resting.{IsCalm, Resting, AreApart, like-apart}
use Rattle.up_isolation.proofs.Hurry.{Waits}
use Rattle.up_isolation.proofs.Acting.{Plain, None'}
use Rattle.up_isolation.proofs.Steady.{view}
use Rattle.up_model.specs.Loads.{in_force}
use Rattle.up_model.proofs.LoadLaws.{LoadsNothing}

-- the entries with which a notice begins a step of the job alone
abbrev pub freeing : Option ℕ → Chronicle → Chronicle
freeing None d = d
freeing (Some event) d = Finished event ∷ Given input.Turn ∷ d

abbrev pub blocker_of : Option ℕ → Chronicle → Option ℕ
blocker_of None d = None
blocker_of (Some i) d = blocker i d

abbrev pub begin_by : Bytes → Configuration → Notice → Chronicle → Chronicle
begin_by job config (Received given) d = effect config given d ++ d
begin_by job config (Arrived event) d =
    Handled (suc (length d)) ∷ Queued (Outside (length d)) event ∷ Given input.Turn ∷ d
begin_by job config (Unblocked name) d = freeing (blocker_of (instance_named (called job name) d) d) d
begin_by job config (Replaced files) d = Loaded files ∷ Given input.Turn ∷ d

abbrev pub begin : Bytes → Configuration → Notice → Chronicle → Chronicle
begin job config notice d = begin_by job (only job config) notice d

-- the chronicle of the job alone, by the configuration in force at each step
unfoldable pub alone : Bytes → (start : Configuration) → List Notice → Chronicle
alone job start [] = []
alone job start (notice ∷ ns) =
    let d = alone job start ns in
    let f = begin_by job (in_force (only job start) d) notice d in
    settle (work (in_force (only job start) f) f) (in_force (only job start) f) f

-- a notice of no load
abbrev pub IsSteady : Notice → Type 0
IsSteady (Received given) = LoadsNothing given
IsSteady (Replaced files) = ⊥
IsSteady notice = Unit {0}

-- how an input takes effect that loads nothing: on others alone, or as a notice
pub data Effected (job : Bytes) (config : Configuration) (c d e : Chronicle) : Type 0 where
  Unnoticed : Resting job config e d → view job config e ≡ view job config c → Effected job config c d e
  Noticed : (notice : Notice) → IsSteady notice → view job config e ≡ notice ∷ view job config c
      → Plain job config e (begin job config notice d) → Effected job config c d e
  Hurried : (notice : Notice) → IsSteady notice → view job config e ≡ notice ∷ view job config c → (r q : ℕ) → (x y : Instance)
      → Waits job config e (begin job config notice d) r q x y → Effected job config c d e

-- both are at rest
pub record Base (job : Bytes) (config : Configuration) (c d : Chronicle) : Type 0 where
  pub like : Like job config c d
  pub rest : due (only job config) d ≡ []
  pub calm : IsCalm job config d

or-none : (es others : List Entry) → or_else es others ≡ [] → es ≡ []
or-none [] others none = refl
or-none (e ∷ es) others none = absurd (cc)

pub still-of : (job : Bytes) (config : Configuration) (d : Chronicle) → due (only job config) d ≡ []
    → move_first (names_in_order (only job config) d) d ≡ []
unfolding due
still-of job config d none = or-none (move_first (names_in_order (only job config) d) d) _ none

-- entries that begin no step aren't noticed
mute-view : (job : Bytes) (config : Configuration) (e : Entry) (c : Chronicle) → IsMute e
    → view job config (e ∷ c) ≡ view job config c
unfolding view
mute-view job config (Given given) c is = absurd is
mute-view job config (Handled event) c is = absurd is
mute-view job config (Finished event) c is = absurd is
mute-view job config (Loaded jobs) c is = absurd is
mute-view job config e c is = refl

pub mutes-view : (job : Bytes) (config : Configuration) (es c : List Entry) → AllByRecursion IsMute es
    → view job config (es ++ c) ≡ view job config c
mutes-view job config [] c all = refl
mutes-view job config (e ∷ es) c all =
    mute-view job config e (es ++ c) all.0 ∙ mutes-view job config es c all.1

pub given-view : (job : Bytes) (config : Configuration) (given : Input) (c : Chronicle)
    → concerns job given ≡ true → view job config (Given given ∷ c) ≡ Received given ∷ view job config c
unfolding view
given-view job config given c is = rw is refl

pub other-view : (job : Bytes) (config : Configuration) (given : Input) (c : Chronicle)
    → concerns job given ≡ false → view job config (Given given ∷ c) ≡ view job config c
unfolding view
other-view job config given c is = rw is refl

pub mute-given : (e : Entry) → IsMute e → NotGiven e
mute-given (Given given) is = is
mute-given e is = tt

-- and leave what is read of the step
mute-offering : (e : Entry) (c : Chronicle) → IsMute e → offering (e ∷ c) ≡ offering c
mute-offering (Given given) c is = absurd is
mute-offering (Handled event) c is = absurd is
mute-offering e c is = refl

pub mutes-offering : (es c : List Entry) → AllByRecursion IsMute es → offering (es ++ c) ≡ offering c
mutes-offering [] c all = refl
mutes-offering (e ∷ es) c all = mute-offering e (es ++ c) all.0 ∙ mutes-offering es c all.1

mute-asked : (e : Entry) (c : Chronicle) → IsMute e → asked (e ∷ c) ≡ asked c
mute-asked (Given given) c is = absurd is
mute-asked e c is = refl

pub mutes-asked : (es c : List Entry) → AllByRecursion IsMute es → asked (es ++ c) ≡ asked c
mutes-asked [] c all = refl
mutes-asked (e ∷ es) c all = mute-asked e (es ++ c) all.0 ∙ mutes-asked es c all.1

-- an input on others, of which no event is taken up and nobody is to be answered at its end
pub unnoticed : (job : Bytes) (config : Configuration) (given : Input) (es c d : List Entry)
    → Base job config c d → concerns job given ≡ false → AllByRecursion IsMute es
    → AreApart job config es (Given given ∷ c)
    → ((r : ℕ) → asked (Given given ∷ c) ≡ Some r → (r < length (es ++ Given given ∷ c))
    × (was_asked job (request_at r (es ++ Given given ∷ c)) ≡ false))
    → Effected job config c d (es ++ Given given ∷ c)
unnoticed job config given es c d base other mute are asks =
    Unnoticed (record {
      like = like-apart job config es (Given given ∷ c) d are
          (foreign job config (Given given) c d other base.like);
      still = still-of job config d base.rest;
      calm = base.calm;
      offers = λ p some. absurd (none-some p (sym some ∙ mutes-offering es (Given given ∷ c) mute));
      asks = λ r some. asks r (sym (mutes-asked es (Given given ∷ c) mute) ∙ some);
    }) (mutes-view job config es (Given given ∷ c) mute ∙ other-view job config given c other)
  where
    none-some : (p : ℕ) → Some p ≡ None → ⊥
    none-some p bad = cc

pub no-asks : (job : Bytes) (c : Chronicle) (e : Chronicle) → asked c ≡ None → (r : ℕ) → asked c ≡ Some r
    → (r < length e) × (was_asked job (request_at r e) ≡ false)
no-asks job c e none r some = absurd (cc)

-- an answer of a process
pub effect-spawned : (job : Bytes) (config : Configuration) (who : Who) (its : Process) (pid : ℕ)
    (c d : Chronicle) → Base job config c d
    → Effected job config c d (effect config (input.Spawned who its pid) c ++ c)
unfolding effect
effect-spawned job config who its pid c d base = by_case (bytes_eq who.job job) refl
  where
    g : Input
    g = input.Spawned who its pid

    by_case : (b : Bool) → bytes_eq who.job job ≡ b → Effected job config c d (Given g ∷ c)
    by_case true is =
        Noticed (Received g) tt (given-view job config g c is)
        (record {
          like = like_given job config g c d base.like;
          offers = None' refl refl;
          silent = refl;
          silent_there = refl;
        })
    by_case false other =
        unnoticed job config g [] c d base other tt tt (no-asks job (Given g ∷ c) (Given g ∷ c) refl)

-- an end or a refusal of one
end-named : (job : Bytes) (config : Configuration) (given : Input) (name : Bytes) (its : Process) (how : End)
    (c d : Chronicle) → Like job config c d
    → Like job config (end_by (called job name) its how (Given given ∷ c) ++ Given given ∷ c)
    (end_by (called job name) its how (Given given ∷ d) ++ Given given ∷ d)
end-named job config given name its how c d like =
    subst (λ def. Like job config (end_by who its how e ++ e) (end_of def (instance_named who f) its how f ++ f))
    (own_file-same job config e f name next)
    (by_found (own_file who e) (found job config c d name (instances_of job c) (instances_of job d) like.twins))
  where
    who : Who
    who = called job name

    e : Chronicle
    e = Given given ∷ c

    f : Chronicle
    f = Given given ∷ d

    next : Like job config e f
    next = like_given job config given c d like

    none-like : (def : Option JobDef) → Like job config (end_of def None its how e ++ e) (end_of def None its how f ++ f)
    none-like None = next
    none-like (Some file) = next

    by_found : (def : Option JobDef) → Found name (instances_of job c) (instances_of job d)
        → Like job config (end_of def (instance_named who e) its how e ++ e)
        (end_of def (instance_named who f) its how f ++ f)
    by_found def (Neither none void) = rw (none, void) (none-like def)
    by_found def (Two x y at left right) =
        rw (left, right) (pair_end job config def e f x y its how (pair-at job config e f x y at next))

end-like : (job : Bytes) (config : Configuration) (given : Input) (who : Who) (its : Process) (how : End)
    (c d : Chronicle) → bytes_eq who.job job ≡ true → Like job config c d
    → Like job config (end_by who its how (Given given ∷ c) ++ Given given ∷ c)
    (end_by who its how (Given given ∷ d) ++ Given given ∷ d)
end-like job config given who its how c d is like =
    subst (λ (w : Who). Like job config (end_by w its how (Given given ∷ c) ++ Given given ∷ c)
    (end_by w its how (Given given ∷ d) ++ Given given ∷ d))
    (ap (λ k. called k who.instance) (sym (bytes_same who.job job is)))
    (end-named job config given who.instance its how c d like)

other-end : (job : Bytes) (given : Input) (who : Who) (c : Chronicle) → bytes_eq who.job job ≡ false → (i : ℕ)
    → instance_named who c ≡ Some i → IsOther job i (Given given ∷ c)
other-end job given who c other i some =
    let made = made-named who i c some in
    (owns-later job i (Given given) c made.0 ∙ ap (is_of job) made.1 ∙ other, omega (arith, made.0))

pub effect-refused : (job : Bytes) (config : Configuration) (who : Who) (its : Process) (c d : Chronicle)
    → Base job config c d → Effected job config c d (effect config (input.Refused who its) c ++ c)
unfolding effect
effect-refused job config who its c d base = rw append_assoc (by_case (bytes_eq who.job job) refl)
  where
    g : Input
    g = input.Refused who its

    es : List Entry
    es = end_by who its end.Refused (Given g ∷ c)

    fs : List Entry
    fs = end_by who its end.Refused (Given g ∷ d)

    mute : AllByRecursion IsMute es
    mute = mute-end (own_file who (Given g ∷ c)) (instance_named who c) its end.Refused (Given g ∷ c)

    mute_there : AllByRecursion IsMute fs
    mute_there = mute-end (own_file who (Given g ∷ d)) (instance_named who d) its
        end.Refused (Given g ∷ d)

    by_case : (b : Bool) → bytes_eq who.job job ≡ b → Effected job config c d (es ++ Given g ∷ c)
    by_case true is =
        Noticed (Received g) tt (mutes-view job config es (Given g ∷ c) mute ∙ given-view job config g c is)
        (subst (λ (t : Chronicle). Plain job config (es ++ Given g ∷ c) t)
        (sym (append_assoc fs (Given g ∷ []) d))
        (record {
          like = end-like job config g who its end.Refused c d is base.like;
          offers = None' (mutes-offering es (Given g ∷ c) mute) (mutes-offering fs (Given g ∷ d) mute_there);
          silent = silent-more es (Given g ∷ c) (all-weaker IsMute NotGiven mute-given es mute) refl;
          silent_there =
              silent-more fs (Given g ∷ d) (all-weaker IsMute NotGiven mute-given fs mute_there) refl;
        }))
    by_case false other =
        unnoticed job config g es c d base other mute
        (apart-end job config (own_file who (Given g ∷ c)) (instance_named who c) its end.Refused
        (Given g ∷ c) (fair_more job (Given g) c base.like.fair tt) (other-end job g who c other))
        (no-asks job (Given g ∷ c) (es ++ Given g ∷ c) refl)

pub effect-ended : (job : Bytes) (config : Configuration) (who : Who) (its : Process) (how : How)
    (c d : Chronicle) → Base job config c d
    → Effected job config c d (effect config (input.Ended who its how) c ++ c)
unfolding effect
effect-ended job config who its how c d base = rw append_assoc (by_case (bytes_eq who.job job) refl)
  where
    g : Input
    g = input.Ended who its how

    es : List Entry
    es = end_by who its (end.Ended how) (Given g ∷ c)

    fs : List Entry
    fs = end_by who its (end.Ended how) (Given g ∷ d)

    mute : AllByRecursion IsMute es
    mute = mute-end (own_file who (Given g ∷ c)) (instance_named who c) its (end.Ended how) (Given g ∷ c)

    mute_there : AllByRecursion IsMute fs
    mute_there = mute-end (own_file who (Given g ∷ d)) (instance_named who d) its
        (end.Ended how) (Given g ∷ d)

    by_case : (b : Bool) → bytes_eq who.job job ≡ b → Effected job config c d (es ++ Given g ∷ c)
    by_case true is =
        Noticed (Received g) tt (mutes-view job config es (Given g ∷ c) mute ∙ given-view job config g c is)
        (subst (λ (t : Chronicle). Plain job config (es ++ Given g ∷ c) t)
        (sym (append_assoc fs (Given g ∷ []) d))
        (record {
          like = end-like job config g who its (end.Ended how) c d is base.like;
          offers = None' (mutes-offering es (Given g ∷ c) mute) (mutes-offering fs (Given g ∷ d) mute_there);
          silent = silent-more es (Given g ∷ c) (all-weaker IsMute NotGiven mute-given es mute) refl;
          silent_there =
              silent-more fs (Given g ∷ d) (all-weaker IsMute NotGiven mute-given fs mute_there) refl;
        }))
    by_case false other =
        unnoticed job config g es c d base other mute
        (apart-end job config (own_file who (Given g ∷ c)) (instance_named who c) its (end.Ended how)
        (Given g ∷ c) (fair_more job (Given g) c base.like.fair tt) (other-end job g who c other))
        (no-asks job (Given g ∷ c) (es ++ Given g ∷ c) refl)

-- an event from outside
pub effect-emit : (job : Bytes) (config : Configuration) (event : Event) (c d : Chronicle)
    → Base job config c d → Effected job config c d (effect config (input.Emit event) c ++ c)
unfolding effect
effect-emit job config event c d base =
    unnoticed job config (input.Emit event) (Queued (Outside (length c)) event ∷ []) c d base refl (tt, tt)
    ((omega arith, rw (eq-eqb (length c) (length c) refl) refl), tt)
    (no-asks job (Given (input.Emit event) ∷ c)
    (Queued (Outside (length c)) event ∷ Given (input.Emit event) ∷ c) refl)
