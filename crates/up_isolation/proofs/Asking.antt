-- Requests that name the job.
use Rattle.up_isolation.proofs.Names.{◌≡◌, ℕ, Bool, true, false, List, [], ◌∷◌, ◌++◌, Option, None, Some, length}
use Rattle.up_isolation.proofs.Names.{if◌then◌else◌, bytes_eq, refl, sym, ◌∙◌, ap, subst, arith, ◌&&◌, subst₂}
use Rattle.up_isolation.proofs.Names.{append_assoc, eq-eqb, AllByRecursion, JobDef, set_all, Expansion, Expands}
use Rattle.up_isolation.proofs.Names.{Lacks, Malformed, expand, Input, Command, Who, Chronicle, Entry, Given}
use Rattle.up_isolation.proofs.Names.{Signalled, Target, Nobody, Concerns, target_as, request_env, target_in}
use Rattle.up_isolation.proofs.Names.{target_of, start_at, start, stop_at, stop, restart_at, restart, reload_at}
use Rattle.up_isolation.proofs.Names.{reload, status_at, status, holders_of, outcome_by, outcome_of, entries_of}
use Rattle.up_isolation.proofs.Names.{known_target, Configuration, effect, env_of_job, start_base, with_instance}
use Rattle.up_isolation.proofs.Names.{file_in_force, known_file, own_file, Instance, instances_of, instance_named}
use Rattle.up_isolation.proofs.Names.{offering, entry_at, holders, unanswered, asked, request_in, unless_answered}
use Rattle.up_isolation.proofs.Names.{RequestValue, Bytes, Bindings, in_force-name, known-name, called, bytes_same}
use Rattle.up_isolation.proofs.Names.{outcome-all, contents, content_of, was_asked, Received, asks, names_job}
use Rattle.std.proofs.Common.{lt-ltb}
use Rattle.up_model.specs.declared.input.Input.TheVariants as input
use Rattle.up_model.specs.declared.request.Command.TheVariants as command
use Rattle.up_isolation.proofs.Twins.{Twins}
use Rattle.up_isolation.proofs.Known.{AreOlder}
use Rattle.up_isolation.proofs.Likes.{only, Twin, Like, file-only, known-only}
use Rattle.up_isolation.proofs.Steps.{like_given}
use Rattle.up_isolation.proofs.Offering.{start_base-same}
use Rattle.up_isolation.proofs.Ends.{IsMute}
use Rattle.up_isolation.proofs.Hurry.{Waits, below}
use Rattle.up_isolation.proofs.Acting.{Plain, None'}
use Rattle.up_isolation.proofs.Releases.{entry-append}
use Rattle.up_isolation.proofs.Alone.{begin, Effected, Noticed, Hurried, Base, mutes-view, given-view}
use Rattle.up_isolation.proofs.Alone.{mutes-offering, mutes-asked}
use Rattle.up_isolation.proofs.Requesting.{target-name, target-file, mute-allows, known-target-name}
use Rattle.up_isolation.proofs.Entries.{pair_signalled}
use Rattle.up_isolation.proofs.Others.{like_replied, env-only}
use Rattle.up_isolation.proofs.Changing.{Acts, Does, Reply, Signal, Act}
use Rattle.up_isolation.proofs.Steady.{view}
use Rattle.up_isolation.proofs.Doing.{does-start, does-stop, does-restart, does-reload, does-status}

-- whom it names is the same
in-same : (job : Bytes) (config : Configuration) (name : Bytes) (file other : Option JobDef) (vars : Bindings) (c d : Chronicle)
    → name ≡ job → file ≡ other → ((def : JobDef) → file ≡ Some def → def.name ≡ name) → Like job config c d
    → target_in config name file vars c ≡ target_in (only job config) name other vars d
in-same job config name file other vars c d is same called-so like =
    by_job file called-so ∙ ap (λ o. target_in (only job config) name o vars d) same
  where
    by_text : (def : JobDef) → def.name ≡ job → (x : Expansion)
        → target_as config def vars x c ≡ target_as (only job config) def vars x d
    by_text def own (Expands text) =
        ap (λ base. Concerns def (called def.name text) (set_all base vars))
        (subst (λ k. start_base config (called k text) c ≡ start_base (only job config) (called k text) d) (sym own)
        (start_base-same job config c d text like))
    by_text def own (Lacks key) = refl
    by_text def own Malformed = refl

    by_job : (o : Option JobDef) → ((def : JobDef) → o ≡ Some def → def.name ≡ name)
        → target_in config name o vars c ≡ target_in (only job config) name o vars d
    by_job None called-so = refl
    by_job (Some def) called-so =
        let own : def.name ≡ job = called-so def refl ∙ is in
        let same : env_of_job config def.name ≡ env_of_job (only job config) def.name =
        ap (λ k. env_of_job config k) own ∙ env-only job config ∙ ap (λ k. env_of_job (only job config) k)
        (sym own) in
        by_text def own (expand def.instance (request_env config def vars))
        ∙ ap (λ (environment : Bindings). target_as (only job config) def vars
        (expand def.instance (set_all environment vars)) d) same

target-same : (job : Bytes) (config : Configuration) (name : Bytes) (vars : Bindings) (c d : Chronicle)
    → name ≡ job → Like job config c d → target_of config name vars c ≡ target_of (only job config) name vars d
target-same job config name vars c d is like =
    in-same job config name (file_in_force config name c) (file_in_force (only job config) name d) vars c d is
    (ap (λ k. file_in_force config k c) is ∙ file-only job config c d ∙ ap (λ k. file_in_force (only job config) k d) (sym is))
    (in_force-name config name c) like

known-same : (job : Bytes) (config : Configuration) (name : Bytes) (vars : Bindings) (c d : Chronicle)
    → name ≡ job → Like job config c d → known_target config name vars c ≡ known_target (only job config) name vars d
known-same job config name vars c d is like =
    in-same job config name (known_file config name c) (known_file (only job config) name d) vars c d is
    (ap (λ k. known_file config k c) is ∙ known-only job config c d like ∙ ap (λ k. known_file (only job config) k d) (sym is))
    (known-name config name c) like

whom : (job : Bytes) (who : Who) → who.job ≡ job → called job who.instance ≡ who
whom job who is = ap (λ (k : Bytes). called k who.instance) (sym is)

-- what a request of the job does
does-outcome : (job : Bytes) (config : Configuration) (r q : ℕ) (request : RequestValue) (c d : Chronicle)
    → asks job request ≡ true
    → contents (holders_of r request.wait) c ≡ contents (holders_of q request.wait) d
    → AreOlder (length c) (holders_of r request.wait) → AreOlder (length d) (holders_of q request.wait)
    → Acts job config r q c d
    → Does job config r q (holders_of r request.wait) (holders_of q request.wait) c d
    (entries_of r (outcome_of config r request c)) (entries_of q (outcome_of (only job config) q request d))
does-outcome job config r q request c d asks same older there acts = by_command request.command refl
  where
    its : List ℕ
    its = holders_of r request.wait

    hers : List ℕ
    hers = holders_of q request.wait

    named : (b : Bool) → (b && bytes_eq request.name job) ≡ true → bytes_eq request.name job ≡ true
    named true h = h
    named false h = absurd (cc)

    name : request.name ≡ job
    name = bytes_same request.name job (named (names_job request.command) asks)

    target : Target
    target = target_of config request.name request.vars c

    target_there : target ≡ target_of (only job config) request.name request.vars d
    target_there = target-same job config request.name request.vars c d name acts.like

    whose : (t : Target) → target ≡ t → (def : JobDef) (who : Who) (environment : Bindings)
        → t ≡ Concerns def who environment → who.job ≡ job
    whose t is def who environment some =
        target-name config request.name request.vars c def who environment (is ∙ some) ∙ name

    known : Target
    known = known_target config request.name request.vars c

    known_there : known ≡ known_target (only job config) request.name request.vars d
    known_there = known-same job config request.name request.vars c d name acts.like

    whose-known : (t : Target) → known ≡ t → (def : JobDef) (who : Who) (environment : Bindings)
        → t ≡ Concerns def who environment → who.job ≡ job
    whose-known t is def who environment some =
        known-target-name config request.name request.vars c def who environment (is ∙ some) ∙ name

    starts : (t : Target) → target ≡ t
        → Does job config r q its hers c d (entries_of r (start its t c)) (entries_of q (start hers t d))
    starts (Nobody text) is = Reply _ refl refl
    starts (Concerns def who environment) is =
        subst (λ (w : Who). Does job config r q its hers c d
        (entries_of r (start_at its def w (with_instance w environment) (instance_named w c) c))
        (entries_of q (start_at hers def w (with_instance w environment) (instance_named w d) d)))
        (whom job who (whose (Concerns def who environment) is def who environment refl))
        (does-start job config r q its hers c d def who.instance
        (with_instance (called job who.instance) environment)
        (in_force-name config request.name c def
        (target-file config request.name request.vars c def who environment is) ∙ name) same older there acts)

    stops : (t : Target) → known ≡ t
        → Does job config r q its hers c d (entries_of r (stop its request.vars t c))
        (entries_of q (stop hers request.vars t d))
    stops (Nobody text) is = Reply _ refl refl
    stops (Concerns def who environment) is =
        subst (λ (w : Who). Does job config r q its hers c d
        (entries_of r (stop_at its request.vars w (instance_named w c) c))
        (entries_of q (stop_at hers request.vars w (instance_named w d) d)))
        (whom job who (whose-known (Concerns def who environment) is def who environment refl))
        (does-stop job config r q its hers c d who.instance request.vars same older there acts)

    restarts : (t : Target) → target ≡ t
        → Does job config r q its hers c d (entries_of r (restart its t c)) (entries_of q (restart hers t d))
    restarts (Nobody text) is = Reply _ refl refl
    restarts (Concerns def who environment) is =
        subst (λ (w : Who). Does job config r q its hers c d
        (entries_of r (restart_at its w (instance_named w c) c))
        (entries_of q (restart_at hers w (instance_named w d) d)))
        (whom job who (whose (Concerns def who environment) is def who environment refl))
        (does-restart job config r q its hers c d who.instance same older there acts)

    statuses : (t : Target) → known ≡ t
        → Does job config r q its hers c d (entries_of r (status t c)) (entries_of q (status t d))
    statuses (Nobody text) is = Reply _ refl refl
    statuses (Concerns def who environment) is =
        subst (λ (w : Who). Does job config r q its hers c d
        (entries_of r (status_at def w (instance_named w c) c))
        (entries_of q (status_at def w (instance_named w d) d)))
        (whom job who (whose-known (Concerns def who environment) is def who environment refl))
        (does-status job config def r q its hers c d who.instance acts)

    reloads : (t : Target) → known ≡ t
        → Does job config r q its hers c d (entries_of r (reload r t c))
        (entries_of q (reload q t d))
    reloads (Nobody text) is = Reply _ refl refl
    reloads (Concerns def who environment) is =
        subst (λ (w : Who). Does job config r q its hers c d
        (entries_of r (reload_at r (own_file w c) w (instance_named w c) c))
        (entries_of q (reload_at q (own_file w d) w (instance_named w d) d)))
        (whom job who (whose-known (Concerns def who environment) is def who environment refl))
        (does-reload job config r q its hers c d who.instance acts)

    not-named : (asked : Command) → request.command ≡ asked → names_job asked ≡ false → ⊥
    not-named asked is none = bad (names_job request.command) (ap names_job is ∙ none) asks
      where
        bad : (b : Bool) → b ≡ false → (b && bytes_eq request.name job) ≡ true → ⊥
        bad true is h = cc
        bad false is h = cc

    by_command : (asked : Command) → request.command ≡ asked
        → Does job config r q its hers c d (entries_of r (outcome_by asked config r request c))
        (entries_of q (outcome_by asked (only job config) q request d))
    by_command command.Start is = subst
        (λ t. Does job config r q its hers c d (entries_of r (start its target c))
        (entries_of q (start hers t d))) target_there (starts target refl)
    by_command command.Stop is = subst
        (λ t. Does job config r q its hers c d (entries_of r (stop its request.vars known c))
        (entries_of q (stop hers request.vars t d))) known_there (stops known refl)
    by_command command.Restart is = subst
        (λ t. Does job config r q its hers c d (entries_of r (restart its target c))
        (entries_of q (restart hers t d))) target_there (restarts target refl)
    by_command command.Status is = subst
        (λ t. Does job config r q its hers c d (entries_of r (status known c)) (entries_of q (status t d)))
        known_there (statuses known refl)
    by_command command.List is = absurd (not-named command.List is refl)
    by_command command.Emit is = absurd (not-named command.Emit is refl)
    by_command command.Version is = absurd (not-named command.Version is refl)
    by_command command.Reload is = subst
        (λ t. Does job config r q its hers c d (entries_of r (reload r known c))
        (entries_of q (reload q t d)))
        known_there (reloads known refl)
    by_command command.ReloadConfiguration is = absurd (not-named command.ReloadConfiguration is refl)

-- a request that names the job
below-older : (n : ℕ) (ps : List ℕ) → AreOlder n ps → below n ps ≡ true
below-older n [] older = refl
below-older n (p ∷ ps) older = rw (lt-ltb p n older.0) (below-older n ps older.1)

held-base : (job : Bytes) (config : Configuration) (c d : Chronicle) (xs ys : List Instance)
    → Twins (Twin job config c d) xs ys → Twins (λ u v. below (length c) (holders u.place c) ≡ true) xs ys
held-base job config c d [] [] twins = tt
held-base job config c d (x ∷ xs) (y ∷ ys) twins =
    (below-older (length c) (holders x.place c) twins.0.bond.older, held-base job config c d xs ys twins.1)
held-base job config c d [] (y ∷ ys) twins = twins
held-base job config c d (x ∷ xs) [] twins = twins

held-base_there : (job : Bytes) (config : Configuration) (c d : Chronicle) (xs ys : List Instance)
    → Twins (Twin job config c d) xs ys → Twins (λ u v. true ≡ below (length d) (holders v.place d)) xs ys
held-base_there job config c d [] [] twins = tt
held-base_there job config c d (x ∷ xs) (y ∷ ys) twins = (
  sym
      (below-older (length d) (holders y.place d) twins.0.bond.older_there),
  held-base_there job config c d xs
      ys twins.1,
)
held-base_there job config c d [] (y ∷ ys) twins = twins
held-base_there job config c d (x ∷ xs) [] twins = twins

pub effect-own : (job : Bytes) (config : Configuration) (id : ℕ) (request : RequestValue) (c d : Chronicle)
    → asks job request ≡ true → Base job config c d
    → Effected job config c d (effect config (input.Request id request) c ++ c)
unfolding effect
effect-own job config id request c d own base =
    rw append_assoc (by_does request.wait refl
    (does-outcome job config r q request e f own same older older_there acts))
  where
    g : Input
    g = input.Request id request

    r : ℕ
    r = length c

    q : ℕ
    q = length d

    e : Chronicle
    e = Given g ∷ c

    f : Chronicle
    f = Given g ∷ d

    es : List Entry
    es = entries_of r (outcome_of config r request e)

    fs : List Entry
    fs = entries_of q (outcome_of (only job config) q request f)

    here : entry_at r e ≡ Some (Given g)
    here = rw (eq-eqb r r refl) refl

    there : entry_at q f ≡ Some (Given g)
    there = rw (eq-eqb q q refl) refl

    next : Like job config e f
    next = like_given job config g c d base.like

    holds : (wait : Bool) → contents (holders_of r wait) e ≡ contents (holders_of q wait) f
    holds true = ap (λ (o : Option Entry). content_of o ∷ []) (here ∙ sym there)
    holds false = refl

    olds : (wait : Bool) → AreOlder (length e) (holders_of r wait)
    olds true = (omega arith, tt)
    olds false = tt

    olds_there : (wait : Bool) → AreOlder (length f) (holders_of q wait)
    olds_there true = (omega arith, tt)
    olds_there false = tt

    same : contents (holders_of r request.wait) e ≡ contents (holders_of q request.wait) f
    same = holds request.wait

    older : AreOlder (length e) (holders_of r request.wait)
    older = olds request.wait

    older_there : AreOlder (length f) (holders_of q request.wait)
    older_there = olds_there request.wait

    acts : Acts job config r q e f
    acts = record {
      like = next;
      held = held-base job config c d (instances_of job c) (instances_of job d) base.like.twins;
      held_there = held-base_there job config c d (instances_of job c) (instances_of job d) base.like.twins;
      unsaid = refl;
      unsaid_there = refl;
    }

    mute : AllByRecursion IsMute es
    mute = outcome-all IsMute mute-allows (λ its name. tt) config r request e (λ i signal runs. tt)

    mute_there : AllByRecursion IsMute fs
    mute_there = outcome-all IsMute mute-allows (λ its name. tt) (only job config) q request f
        (λ i signal runs. tt)

    noticed-view : view job config (es ++ e) ≡ Received g ∷ view job config c
    noticed-view = mutes-view job config es e mute ∙ given-view job config g c own

    begun : fs ++ f ≡ begin job config (Received g) d
    begun = sym (append_assoc fs (Given g ∷ []) d)

    offers : offering (es ++ e) ≡ None
    offers = mutes-offering es e mute

    offers_there : offering (fs ++ f) ≡ None
    offers_there = mutes-offering fs f mute_there

    plain : Like job config (es ++ e) (fs ++ f) → unanswered (es ++ e) ≡ None → unanswered (fs ++ f) ≡ None
        → Effected job config c d (es ++ e)
    plain like silent silent_there =
        Noticed (Received g) tt noticed-view (subst (λ (t : Chronicle). Plain job config (es ++ e) t) begun
        (record {
          like = like;
          offers = None' offers offers_there;
          silent = silent;
          silent_there =
              silent_there;
        }))

    does-like : Does job config r q (holders_of r request.wait) (holders_of q request.wait) e f es fs
        → Like job config (es ++ e) (fs ++ f)
    does-like (Reply answer left right) =
        subst₂ (λ (s t : List Entry). Like job config (s ++ e) (t ++ f)) (sym left) (sym right)
        (like_replied job config e f r q answer (here ∙ sym there) next)
    does-like (Signal x y signal pair left right) =
        subst₂ (λ (s t : List Entry). Like job config (s ++ e) (t ++ f)) (sym left) (sym right)
        (like_replied job config (Signalled x.place signal false ∷ e) (Signalled y.place signal false ∷ f) r q
        (record { ok = true; text = [] }) (later ∙ sym later_there)
        (pair_signalled job config e f x y signal false pair).pair.like)
      where
        later : entry_at r (Signalled x.place signal false ∷ e) ≡ Some (Given g)
        later = (entry-append r (Signalled x.place signal false ∷ []) e (omega arith)).1 ∙ here

        later_there : entry_at q (Signalled y.place signal false ∷ f) ≡ Some (Given g)
        later_there = (entry-append q (Signalled y.place signal false ∷ []) f (omega arith)).1 ∙ there
    does-like (Act x y pair acted acted_there silent silent_there held held_there) = pair.like

    asking : (wait : Bool) → request.wait ≡ wait → asked (es ++ e) ≡ (if wait then None else Some r)
    asking wait is = mutes-asked es e mute ∙ ap (λ b. if b then None else Some r) is

    asking_there : (wait : Bool) → request.wait ≡ wait → asked (fs ++ f) ≡ (if wait then None else Some q)
    asking_there wait is = mutes-asked fs f mute_there ∙ ap (λ b. if b then None else Some q) is

    by_does : (wait : Bool) → request.wait ≡ wait
        → Does job config r q (holders_of r request.wait) (holders_of q request.wait) e f es fs
        → Effected job config c d (es ++ e)
    by_does true is does = plain (does-like does) (ap (λ o. unless_answered o (es ++ e)) (asking true is))
        (ap (λ o. unless_answered o (fs ++ f)) (asking_there true is))
    by_does false is (Reply answer left right) =
        plain (does-like (Reply answer left right))
        (ap (λ o. unless_answered o (es ++ e)) (asking false is)
        ∙ ap (λ (s : List Entry). unless_answered (Some r) (s ++ e)) left ∙ rw (eq-eqb r r refl) refl)
        (ap (λ o. unless_answered o (fs ++ f)) (asking_there false is)
        ∙ ap (λ (t : List Entry). unless_answered (Some q) (t ++ f)) right ∙ rw (eq-eqb q q refl) refl)
    by_does false is (Signal x y signal pair left right) =
        plain (does-like (Signal x y signal pair left right))
        (ap (λ o. unless_answered o (es ++ e)) (asking false is)
        ∙ ap (λ (s : List Entry). unless_answered (Some r) (s ++ e)) left ∙ rw (eq-eqb r r refl) refl)
        (ap (λ o. unless_answered o (fs ++ f)) (asking_there false is)
        ∙ ap (λ (t : List Entry). unless_answered (Some q) (t ++ f)) right ∙ rw (eq-eqb q q refl) refl)
    by_does false is (Act x y pair acted acted_there silent silent_there held held_there) =
        let none : holders_of r request.wait ≡ [] = ap (holders_of r) is in
        let void : holders_of q request.wait ≡ [] = ap (holders_of q) is in
        let one = entry-append r es e (omega arith) in
        let two = entry-append q fs f (omega arith) in
        Hurried (Received g) tt noticed-view r q x y
        (subst (λ (t : Chronicle). Waits job config (es ++ e) t r q x y) begun
        (record {
          like = pair.like;
          offers = offers;
          offers_there = offers_there;
          asking = asking false is;
          asking_there = asking_there false is;
          silent = silent;
          silent_there = silent_there;
          request = one.1 ∙ here ∙ sym there ∙ sym two.1;
          older = one.0;
          older_there = two.0;
          own = ap (λ o. was_asked job (request_in o)) (one.1 ∙ here) ∙ own;
          acted = acted;
          acted_there = acted_there;
          guest = record { twin = pair.twin; left = pair.left; right = pair.right; match = pair.match };
          held = held none;
          held_there = held_there void;
        }))
