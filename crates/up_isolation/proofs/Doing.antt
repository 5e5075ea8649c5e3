-- What a command does to the job is alike in both chronicles.
use Rattle.up_isolation.proofs.Names.{◌≡◌, ℕ, Bool, true, false, List, [], ◌∷◌, ◌++◌, Option, None, Some, is_some}
use Rattle.up_isolation.proofs.Names.{length, if◌then◌else◌, refl, sym, ap, subst, not, ◌&&◌, subst₂, nat_lt}
use Rattle.up_isolation.proofs.Names.{codes, JobDef, is_filled, Main, Start, Stop, Who, Chronicle, Entry, Made}
use Rattle.up_isolation.proofs.Names.{Aimed, Restarted, Replied, start_at, stop_at, restart_at, reload_at}
use Rattle.up_isolation.proofs.Names.{status_at, entries_of, Done, is_running, reloading, Configuration, own_file}
use Rattle.up_isolation.proofs.Names.{Instance, instances_of, instance_named, stop_of, max_instances, start_of}
use Rattle.up_isolation.proofs.Names.{is_start, entries_if, goal, state_of, lives, releasing, status_of, Bytes}
use Rattle.up_isolation.proofs.Names.{Bindings, called, contents}
use Rattle.up_model.specs.Status.{who_name}
use Rattle.up_model.specs.Commands.{Refused, Told as Said}
use Rattle.up_isolation.proofs.Lives.{Life}
use Rattle.up_isolation.proofs.Known.{AreOlder}
use Rattle.up_isolation.proofs.Likes.{Twin}
use Rattle.up_isolation.proofs.Pairs.{Pair, made-same}
use Rattle.up_isolation.proofs.Twins.{At, at-twins}
use Rattle.up_isolation.proofs.Offering.{pair-at, found, Found, Neither, Two, own_file-same, twins-length}
use Rattle.up_isolation.proofs.Releases.{status-same}
use Rattle.up_isolation.proofs.Changing.{Acts, Does, Reply, Signal, act-aimed, act-restarted, act-new}

-- `start`
pub does-start : (job : Bytes) (config : Configuration) (r q : ℕ) (its hers : List ℕ) (c d : Chronicle)
    (def : JobDef) (name : Bytes) (environment : Bindings) → def.name ≡ job
    → contents its c ≡ contents hers d → AreOlder (length c) its → AreOlder (length d) hers
    → Acts job config r q c d
    → Does job config r q its hers c d
    (entries_of r (start_at its def (called job name) environment (instance_named (called job name) c) c))
    (entries_of q (start_at hers def (called job name) environment (instance_named (called job name) d) d))
does-start job config r q its hers c d def name environment named same older there acts =
    by_found (found job config c d name (instances_of job c) (instances_of job d) acts.like.twins)
  where
    who : Who
    who = called job name

    by_room : instance_named who c ≡ None → (b a : Bool)
        → nat_lt (length (instances_of job c)) max_instances ≡ b
        → nat_lt (length (instances_of job d)) max_instances ≡ a → b ≡ a
        → Does job config r q its hers c d
        (entries_of r (if b then Done (start_of def who environment its None c)
        else Refused (codes "Too many instances: " ++ job)))
        (entries_of q (if a then Done (start_of def who environment hers None d)
        else Refused (codes "Too many instances: " ++ job)))
    by_room none true true left right equal =
        subst₂ (λ (es fs : List Entry). Does job config r q its hers c d es fs)
        (ap (λ b. entries_if b (Aimed (length c) Start environment its ∷ Made def name ∷ [])) (sym left))
        (ap (λ b. entries_if b (Aimed (length d) Start environment hers ∷ Made def name ∷ [])) (sym right))
        (act-new job config r q its hers c d def name environment named none same older there acts)
    by_room none false false left right equal = Reply _ refl refl
    by_room none true false left right equal = absurd (cc)
    by_room none false true left right equal = absurd (cc)

    by_goal : (x y : Instance) → At x y (instances_of job c) (instances_of job d) → (b a : Bool)
        → is_start (goal x.place c) ≡ b → is_start (goal y.place d) ≡ a → b ≡ a
        → Does job config r q its hers c d
        (entries_of r (if b then Refused (codes "Job is already running: " ++ who_name who)
        else Done (start_of def who environment its (Some x.place) c)))
        (entries_of q (if a then Refused (codes "Job is already running: " ++ who_name who)
        else Done (start_of def who environment hers (Some y.place) d)))
    by_goal x y at true true left right equal = Reply _ refl refl
    by_goal x y at false false left right equal =
        subst₂ (λ (es fs : List Entry). Does job config r q its hers c d es fs)
        (ap (λ b. entries_if (not b) (Aimed x.place Start environment its ∷ releasing x.place false c))
        (sym left))
        (ap (λ b. entries_if (not b) (Aimed y.place Start environment hers ∷ releasing y.place false d))
        (sym right))
        (act-aimed job config r q its hers c d x y Start environment at same older there acts)
    by_goal x y at true false left right equal = absurd (cc)
    by_goal x y at false true left right equal = absurd (cc)

    by_found : Found name (instances_of job c) (instances_of job d)
        → Does job config r q its hers c d
        (entries_of r (start_at its def who environment (instance_named who c) c))
        (entries_of q (start_at hers def who environment (instance_named who d) d))
    by_found (Neither none void) =
        subst₂ (λ o u. Does job config r q its hers c d (entries_of r (start_at its def who environment o c))
        (entries_of q (start_at hers def who environment u d))) (sym none) (sym void)
        (by_room none (nat_lt (length (instances_of job c)) max_instances)
        (nat_lt (length (instances_of job d)) max_instances) refl refl
        (ap (λ n. nat_lt n max_instances)
        (twins-length (Twin job config c d) (instances_of job c) (instances_of job d) acts.like.twins)))
    by_found (Two x y at left right) =
        subst₂ (λ o u. Does job config r q its hers c d (entries_of r (start_at its def who environment o c))
        (entries_of q (start_at hers def who environment u d))) (sym left) (sym right)
        (by_goal x y at (is_start (goal x.place c)) (is_start (goal y.place d)) refl refl
        (ap (λ (l : Life). is_start l.goal)
        (at-twins (Twin job config c d) x y (instances_of job c) (instances_of job d) at
        acts.like.twins).bond.alike))

-- `stop`
pub does-stop : (job : Bytes) (config : Configuration) (r q : ℕ) (its hers : List ℕ) (c d : Chronicle)
    (name : Bytes) (vars : Bindings)
    → contents its c ≡ contents hers d → AreOlder (length c) its → AreOlder (length d) hers
    → Acts job config r q c d
    → Does job config r q its hers c d
    (entries_of r (stop_at its vars (called job name) (instance_named (called job name) c) c))
    (entries_of q (stop_at hers vars (called job name) (instance_named (called job name) d) d))
does-stop job config r q its hers c d name vars same older there acts =
    by_found (found job config c d name (instances_of job c) (instances_of job d) acts.like.twins)
  where
    who : Who
    who = called job name

    by_goal : (x y : Instance) → At x y (instances_of job c) (instances_of job d) → (b a : Bool) → b ≡ a
        → Does job config r q its hers c d
        (entries_of r (if b then Done (stop_of x.place vars its c)
        else Refused (codes "Job has already been stopped: " ++ who_name who)))
        (entries_of q (if a then Done (stop_of y.place vars hers d)
        else Refused (codes "Job has already been stopped: " ++ who_name who)))
    by_goal x y at true true equal =
        act-aimed job config r q its hers c d x y Stop vars at same older there acts
    by_goal x y at false false equal = Reply _ refl refl
    by_goal x y at true false equal = absurd (cc)
    by_goal x y at false true equal = absurd (cc)

    by_found : Found name (instances_of job c) (instances_of job d)
        → Does job config r q its hers c d (entries_of r (stop_at its vars who (instance_named who c) c))
        (entries_of q (stop_at hers vars who (instance_named who d) d))
    by_found (Neither none void) =
        subst₂ (λ o u. Does job config r q its hers c d (entries_of r (stop_at its vars who o c))
        (entries_of q (stop_at hers vars who u d))) (sym none) (sym void) (Reply _ refl refl)
    by_found (Two x y at left right) =
        subst₂ (λ o u. Does job config r q its hers c d (entries_of r (stop_at its vars who o c))
        (entries_of q (stop_at hers vars who u d))) (sym left) (sym right)
        (by_goal x y at (is_start (goal x.place c)) (is_start (goal y.place d))
        (ap (λ (l : Life). is_start l.goal)
        (at-twins (Twin job config c d) x y (instances_of job c) (instances_of job d) at
        acts.like.twins).bond.alike))

-- `restart`
pub does-restart : (job : Bytes) (config : Configuration) (r q : ℕ) (its hers : List ℕ) (c d : Chronicle)
    (name : Bytes)
    → contents its c ≡ contents hers d → AreOlder (length c) its → AreOlder (length d) hers
    → Acts job config r q c d
    → Does job config r q its hers c d
    (entries_of r (restart_at its (called job name) (instance_named (called job name) c) c))
    (entries_of q (restart_at hers (called job name) (instance_named (called job name) d) d))
does-restart job config r q its hers c d name same older there acts =
    by_found (found job config c d name (instances_of job c) (instances_of job d) acts.like.twins)
  where
    who : Who
    who = called job name

    by_state : (x y : Instance) → At x y (instances_of job c) (instances_of job d) → (b a : Bool) → b ≡ a
        → Does job config r q its hers c d
        (entries_of r (if b then Done (Restarted x.place its ∷ releasing x.place false c)
        else Refused (codes "Job is not running: " ++ who_name who)))
        (entries_of q (if a then Done (Restarted y.place hers ∷ releasing y.place false d)
        else Refused (codes "Job is not running: " ++ who_name who)))
    by_state x y at true true equal = act-restarted job config r q its hers c d x y at same older there acts
    by_state x y at false false equal = Reply _ refl refl
    by_state x y at true false equal = absurd (cc)
    by_state x y at false true equal = absurd (cc)

    by_found : Found name (instances_of job c) (instances_of job d)
        → Does job config r q its hers c d (entries_of r (restart_at its who (instance_named who c) c))
        (entries_of q (restart_at hers who (instance_named who d) d))
    by_found (Neither none void) =
        subst₂ (λ o u. Does job config r q its hers c d (entries_of r (restart_at its who o c))
        (entries_of q (restart_at hers who u d))) (sym none) (sym void) (Reply _ refl refl)
    by_found (Two x y at left right) =
        subst₂ (λ o u. Does job config r q its hers c d (entries_of r (restart_at its who o c))
        (entries_of q (restart_at hers who u d))) (sym left) (sym right)
        (by_state x y at (is_running (state_of x.place c)) (is_running (state_of y.place d))
        (ap (λ (l : Life). is_running l.state)
        (at-twins (Twin job config c d) x y (instances_of job c) (instances_of job d) at
        acts.like.twins).bond.alike))

-- `reload`
does-reload-by : (job : Bytes) (config : Configuration) (def : JobDef) (r q : ℕ) (its hers : List ℕ)
    (c d : Chronicle) (name : Bytes) → Acts job config r q c d
    → Does job config r q its hers c d
    (entries_of r (reload_at r (Some def) (called job name) (instance_named (called job name) c) c))
    (entries_of q (reload_at q (Some def) (called job name) (instance_named (called job name) d) d))
does-reload-by job config def r q its hers c d name acts =
    by_found (found job config c d name (instances_of job c) (instances_of job d) acts.like.twins)
  where
    who : Who
    who = called job name

    by_state : (x y : Instance) → Pair job config c d x y → (b a : Bool) → b ≡ a
        → Does job config r q its hers c d
        (entries_of r (if b then Done (reloading r x.place def.reload_signal)
        else Refused (codes "Job is not running: " ++ who_name who)))
        (entries_of q (if a then Done (reloading q y.place def.reload_signal)
        else Refused (codes "Job is not running: " ++ who_name who)))
    by_state x y pair true true equal = Signal x y def.reload_signal pair refl refl
    by_state x y pair false false equal = Reply _ refl refl
    by_state x y pair true false equal = absurd (cc)
    by_state x y pair false true equal = absurd (cc)

    by_found : Found name (instances_of job c) (instances_of job d)
        → Does job config r q its hers c d (entries_of r (reload_at r (Some def) who (instance_named who c) c))
        (entries_of q (reload_at q (Some def) who (instance_named who d) d))
    by_found (Neither none void) =
        subst₂ (λ o u. Does job config r q its hers c d (entries_of r (reload_at r (Some def) who o c))
        (entries_of q (reload_at q (Some def) who u d))) (sym none) (sym void) (Reply _ refl refl)
    by_found (Two x y at left right) =
        let pair = pair-at job config c d x y at acts.like in
        subst₂ (λ o u. Does job config r q its hers c d (entries_of r (reload_at r (Some def) who o c))
        (entries_of q (reload_at q (Some def) who u d))) (sym left) (sym right)
        (by_state x y pair (is_running (state_of x.place c) && lives x.place Main c)
        (is_running (state_of y.place d) && lives y.place Main d)
        (ap (λ (l : Life). is_running l.state && is_some (l.pid Main)) pair.twin.bond.alike))

-- by the file that the instance has
pub does-reload : (job : Bytes) (config : Configuration) (r q : ℕ) (its hers : List ℕ) (c d : Chronicle)
    (name : Bytes) → Acts job config r q c d
    → Does job config r q its hers c d
    (entries_of r (reload_at r (own_file (called job name) c) (called job name)
    (instance_named (called job name) c) c))
    (entries_of q (reload_at q (own_file (called job name) d) (called job name)
    (instance_named (called job name) d) d))
does-reload job config r q its hers c d name acts =
    subst (λ file. Does job config r q its hers c d
    (entries_of r (reload_at r (own_file who c) who (instance_named who c) c))
    (entries_of q (reload_at q file who (instance_named who d) d)))
    (own_file-same job config c d name acts.like)
    (by_file (own_file who c))
  where
    who : Who
    who = called job name

    by_found : Found name (instances_of job c) (instances_of job d)
        → Does job config r q its hers c d (entries_of r (reload_at r None who (instance_named who c) c))
        (entries_of q (reload_at q None who (instance_named who d) d))
    by_found (Neither none void) =
        subst₂ (λ o u. Does job config r q its hers c d (entries_of r (reload_at r None who o c))
        (entries_of q (reload_at q None who u d))) (sym none) (sym void) (Reply _ refl refl)
    by_found (Two x y at left right) =
        subst₂ (λ o u. Does job config r q its hers c d (entries_of r (reload_at r None who o c))
        (entries_of q (reload_at q None who u d))) (sym left) (sym right) (Reply _ refl refl)

    by_file : (file : Option JobDef)
        → Does job config r q its hers c d (entries_of r (reload_at r file who (instance_named who c) c))
        (entries_of q (reload_at q file who (instance_named who d) d))
    by_file None = by_found (found job config c d name (instances_of job c) (instances_of job d) acts.like.twins)
    by_file (Some def) = does-reload-by job config def r q its hers c d name acts

-- `status`
pub does-status : (job : Bytes) (config : Configuration) (def : JobDef) (r q : ℕ) (its hers : List ℕ)
    (c d : Chronicle) (name : Bytes) → Acts job config r q c d
    → Does job config r q its hers c d
    (entries_of r (status_at def (called job name) (instance_named (called job name) c) c))
    (entries_of q (status_at def (called job name) (instance_named (called job name) d) d))
does-status job config def r q its hers c d name acts =
    by_found (found job config c d name (instances_of job c) (instances_of job d) acts.like.twins)
  where
    who : Who
    who = called job name

    by_filled : (b : Bool) (one two : Bytes)
        → Does job config r q its hers c d (entries_of r (if b then Refused one else Said two))
        (entries_of q (if b then Refused one else Said two))
    by_filled true one two = Reply _ refl refl
    by_filled false one two = Reply _ refl refl

    by_found : Found name (instances_of job c) (instances_of job d)
        → Does job config r q its hers c d (entries_of r (status_at def who (instance_named who c) c))
        (entries_of q (status_at def who (instance_named who d) d))
    by_found (Neither none void) =
        subst₂ (λ o u. Does job config r q its hers c d (entries_of r (status_at def who o c))
        (entries_of q (status_at def who u d))) (sym none) (sym void)
        (by_filled (is_filled def.instance) _ _)
    by_found (Two x y at left right) =
        let pair = pair-at job config c d x y at acts.like in
        subst₂ (λ o u. Does job config r q its hers c d (entries_of r (status_at def who o c))
        (entries_of q (status_at def who u d))) (sym left) (sym right)
        (Reply (record { ok = true; text = status_of x.place c }) refl
        (ap (λ (text : Bytes). Replied q (record { ok = true; text = text }) ∷ [])
        (sym (status-same x.place y.place c d (made-same job config c d x y pair) pair.twin.bond.alike))))
