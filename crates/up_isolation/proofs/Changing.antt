-- What a request of the job does in two runs that its job sees alike: what becomes of an instance whose goal it changes.
use Rattle.std.proofs.Common.{◌≡◌, ℕ, ◌==◌, Bool, true, false, List, [], ◌∷◌, ◌++◌, None, Some}
use Rattle.std.proofs.Common.{length, if◌then◌else◌, bytes_eq, refl, sym, ◌∙◌, ap, subst}
use Rattle.std.proofs.Common.{eq-eqb}
use Rattle.std.specs.List.{AllByRecursion}
use Rattle.up_conf.specs.declared.job.JobDef.{JobDef}
use Rattle.up_model.specs.declared.request.Answer.{Answer}
use Rattle.up_model.specs.declared.state.Goal.{Goal}
use Rattle.up_model.specs.Chronicle.{Chronicle, Entry, Made, Aimed, Restarted, Replied}
use Rattle.up_model.specs.Configuration.{Configuration}
use Rattle.up_model.specs.Instances.{Instance, instances_of}
use Rattle.up_model.specs.Readings.{holders}
use Rattle.up_model.specs.Values.{Bytes, Bindings}
use Rattle.up_model.proofs.Places.{bytes_refl}
use Rattle.up_model.proofs.NameLaws.{called}
use Rattle.up_isolation.specs.Parts.{contents}
use Rattle.up_isolation.proofs.Twins.{Twins}
use Rattle.up_isolation.proofs.Known.{AreOlder}
use Rattle.up_isolation.proofs.Likes.{Like}
use Rattle.up_isolation.proofs.Pairs.{Pair, Carries}
use Rattle.up_model.specs.Instances.{instance_named}
use Rattle.up_isolation.proofs.Twins.{At}
use Rattle.up_isolation.proofs.Offering.{pair-at}
use Rattle.up_model.specs.declared.state.Goal.TheVariants.{Start}
use Rattle.up_model.specs.Commands.{reloading}
use Rattle.up_model.specs.Replies.{was_answered, request_instance}
use Rattle.up_model.specs.Replies.{releasing}
use Rattle.up_isolation.proofs.Twins.{at-twins}
use Rattle.up_isolation.proofs.Making.{instance-at, twins-with, twins-names}
use Rattle.up_isolation.proofs.Entries.{pair_aimed, pair_restarted}
use Rattle.up_isolation.proofs.Releases.{carries-append, pair_releasing, later-contents, later-older}
use Rattle.up_isolation.proofs.Offering.{pair_start_new}
use Rattle.up_isolation.proofs.Locals.{IsMoving}
use Rattle.up_isolation.proofs.Hurry.{below, movings-held, IsUnsaid, unsaid-releasing, unsaid-same}
use Rattle.up_isolation.proofs.Hurry.{twins-more, twins-more_there}
use Rattle.up_model.proofs.Sparing.{same-append}
use Rattle.up_model.proofs.ReplyLaws.{releasing-all}

-- all that the instances hold is below a place
abbrev pub Held : Bytes → ℕ → Chronicle → Chronicle → Type 0
Held job r c d = Twins (λ u v. below r (holders u.place c) ≡ true) (instances_of job c) (instances_of job d)

abbrev pub HeldThere : Bytes → ℕ → Chronicle → Chronicle → Type 0
HeldThere job q c d =
    Twins (λ u v. true ≡ below q (holders v.place d)) (instances_of job c) (instances_of job d)

-- what a request of the job does in both: it is answered, maybe after a signal to two instances, or it acts on two
pub data Does (job : Bytes) (config : Configuration) (r q : ℕ) (its hers : List ℕ) (c d : Chronicle)
    (es fs : List Entry) : Type 0 where
  Reply : (answer : Answer) → es ≡ Replied r answer ∷ [] → fs ≡ Replied q answer ∷ []
      → Does job config r q its hers c d es fs
  Signal : (x y : Instance) (signal : ℕ) → Pair job config c d x y → es ≡ reloading r x.place signal
      → fs ≡ reloading q y.place signal → Does job config r q its hers c d es fs
  Act : (x y : Instance) → Pair job config (es ++ c) (fs ++ d) x y → request_instance (es ++ c) ≡ Some x.place
      → request_instance (fs ++ d) ≡ Some y.place
      → was_answered r (es ++ c) ≡ false → was_answered q (fs ++ d) ≡ false
      → (its ≡ [] → Held job r (es ++ c) (fs ++ d)) → (hers ≡ [] → HeldThere job q (es ++ c) (fs ++ d))
      → Does job config r q its hers c d es fs

releasing-moving : (i : ℕ) (c : Chronicle) → AllByRecursion IsMoving (releasing i false c)
releasing-moving i c = releasing-all IsMoving (λ request answer. tt) i false tt c

-- the goal of two that are there changes, or a restart is taken
pub record Acts (job : Bytes) (config : Configuration) (r q : ℕ) (c d : Chronicle) : Type 0 where
  pub like : Like job config c d
  pub held : Held job r c d
  pub held_there : HeldThere job q c d
  pub unsaid : was_answered r c ≡ false
  pub unsaid_there : was_answered q d ≡ false

aimed-held : (r i k : ℕ) (aim : Goal) (environment : Bindings) (c : Chronicle) → below r (holders k c) ≡ true
    → below r (holders k (Aimed i aim environment [] ∷ c)) ≡ true
aimed-held r i k aim environment c h = by_case (i == k)
  where
    by_case : (b : Bool) → below r (if b then [] else holders k c) ≡ true
    by_case true = refl
    by_case false = h

restarted-held : (r i k : ℕ) (c : Chronicle) → below r (holders k c) ≡ true
    → below r (holders k (Restarted i [] ∷ c)) ≡ true
restarted-held r i k c h = by_case (i == k)
  where
    by_case : (b : Bool) → below r (if b then [] else holders k c) ≡ true
    by_case true = refl
    by_case false = h

pub act-aimed : (job : Bytes) (config : Configuration) (r q : ℕ) (its hers : List ℕ) (c d : Chronicle)
    (x y : Instance) (aim : Goal) (environment : Bindings) → At x y (instances_of job c) (instances_of job d)
    → contents its c ≡ contents hers d → AreOlder (length c) its → AreOlder (length d) hers
    → Acts job config r q c d
    → Does job config r q its hers c d (Aimed x.place aim environment its ∷ releasing x.place false c)
    (Aimed y.place aim environment hers ∷ releasing y.place false d)
act-aimed job config r q its hers c d x y aim environment at same older there acts =
    Act x y carries.pair refl refl
    (same-append (was_answered r) (IsUnsaid r) (unsaid-same r) (releasing x.place false c) c
    (unsaid-releasing r x.place false c (at-twins (λ u v. below r (holders u.place c) ≡ true) x y
    (instances_of job c) (instances_of job d) at acts.held)) ∙ acts.unsaid)
    (same-append (was_answered q) (IsUnsaid q) (unsaid-same q) (releasing y.place false d) d
    (unsaid-releasing q y.place false d
    (sym (at-twins (λ u v. true ≡ below q (holders v.place d)) x y (instances_of job c)
    (instances_of job d) at acts.held_there))) ∙ acts.unsaid_there)
    (λ none. subst (λ (ps : List ℕ). Held job r (Aimed x.place aim environment ps ∷ releasing x.place false c
    ++ c) ((Aimed y.place aim environment hers ∷ releasing y.place false d) ++ d)) (sym none)
    (twins-more (λ u. below r (holders u.place c)) (λ u. true)
    (λ u. below r (holders u.place (Aimed x.place aim environment [] ∷ releasing x.place false c ++ c)))
    (λ u. true) _ _
    (λ u h. aimed-held r x.place u.place aim environment (releasing x.place false c ++ c)
    (movings-held r u.place (releasing x.place false c) c (releasing-moving x.place c) h))
    (carries.shrinks (λ u. below r (holders u.place c)) (λ v. true) acts.held)))
    (λ none. subst (λ (ps : List ℕ). HeldThere job q
    ((Aimed x.place aim environment its ∷ releasing x.place false c) ++ c)
    (Aimed y.place aim environment ps ∷ releasing y.place false d ++ d)) (sym none)
    (twins-more_there (λ v. below q (holders v.place d))
    (λ v. below q (holders v.place (Aimed y.place aim environment [] ∷ releasing y.place false d ++ d))) _
    _
    (λ v h. aimed-held q y.place v.place aim environment (releasing y.place false d ++ d)
    (movings-held q v.place (releasing y.place false d) d (releasing-moving y.place d) h))
    (carries.shrinks (λ u. true) (λ v. below q (holders v.place d)) acts.held_there)))
  where
    pair : Pair job config c d x y
    pair = pair-at job config c d x y at acts.like

    carries : Carries job config c d ((Aimed x.place aim environment its ∷ releasing x.place false c) ++ c)
        ((Aimed y.place aim environment hers ∷ releasing y.place false d) ++ d) x y
    carries =
        carries-append job config c d x y (Aimed x.place aim environment its ∷ []) (releasing x.place false c)
        (Aimed y.place aim environment hers ∷ []) (releasing y.place false d)
        (pair_releasing job config c d x y false pair)
        (λ next. pair_aimed job config (releasing x.place false c ++ c) (releasing y.place false d ++ d) x y
        aim environment its hers
        (later-contents its c (releasing x.place false c) older ∙ same
        ∙ sym (later-contents hers d (releasing y.place false d) there))
        (later-older its c (releasing x.place false c) older)
        (later-older hers d (releasing y.place false d) there) next)

pub act-restarted : (job : Bytes) (config : Configuration) (r q : ℕ) (its hers : List ℕ) (c d : Chronicle)
    (x y : Instance) → At x y (instances_of job c) (instances_of job d)
    → contents its c ≡ contents hers d → AreOlder (length c) its → AreOlder (length d) hers
    → Acts job config r q c d
    → Does job config r q its hers c d (Restarted x.place its ∷ releasing x.place false c)
    (Restarted y.place hers ∷ releasing y.place false d)
act-restarted job config r q its hers c d x y at same older there acts =
    Act x y carries.pair refl refl
    (same-append (was_answered r) (IsUnsaid r) (unsaid-same r) (releasing x.place false c) c
    (unsaid-releasing r x.place false c (at-twins (λ u v. below r (holders u.place c) ≡ true) x y
    (instances_of job c) (instances_of job d) at acts.held)) ∙ acts.unsaid)
    (same-append (was_answered q) (IsUnsaid q) (unsaid-same q) (releasing y.place false d) d
    (unsaid-releasing q y.place false d
    (sym (at-twins (λ u v. true ≡ below q (holders v.place d)) x y (instances_of job c)
    (instances_of job d) at acts.held_there))) ∙ acts.unsaid_there)
    (λ none. subst (λ (ps : List ℕ). Held job r (Restarted x.place ps ∷ releasing x.place false c ++ c)
    ((Restarted y.place hers ∷ releasing y.place false d) ++ d)) (sym none)
    (twins-more (λ u. below r (holders u.place c)) (λ u. true)
    (λ u. below r (holders u.place (Restarted x.place [] ∷ releasing x.place false c ++ c))) (λ u. true) _
    _
    (λ u h. restarted-held r x.place u.place (releasing x.place false c ++ c)
    (movings-held r u.place (releasing x.place false c) c (releasing-moving x.place c) h))
    (carries.shrinks (λ u. below r (holders u.place c)) (λ v. true) acts.held)))
    (λ none. subst (λ (ps : List ℕ). HeldThere job q ((Restarted x.place its ∷ releasing x.place false c)
    ++ c) (Restarted y.place ps ∷ releasing y.place false d ++ d)) (sym none)
    (twins-more_there (λ v. below q (holders v.place d))
    (λ v. below q (holders v.place (Restarted y.place [] ∷ releasing y.place false d ++ d))) _ _
    (λ v h. restarted-held q y.place v.place (releasing y.place false d ++ d)
    (movings-held q v.place (releasing y.place false d) d (releasing-moving y.place d) h))
    (carries.shrinks (λ u. true) (λ v. below q (holders v.place d)) acts.held_there)))
  where
    pair : Pair job config c d x y
    pair = pair-at job config c d x y at acts.like

    carries : Carries job config c d ((Restarted x.place its ∷ releasing x.place false c) ++ c)
        ((Restarted y.place hers ∷ releasing y.place false d) ++ d) x y
    carries =
        carries-append job config c d x y (Restarted x.place its ∷ []) (releasing x.place false c)
        (Restarted y.place hers ∷ []) (releasing y.place false d)
        (pair_releasing job config c d x y false pair)
        (λ next. pair_restarted job config (releasing x.place false c ++ c) (releasing y.place false d ++ d) x
        y its hers
        (later-contents its c (releasing x.place false c) older ∙ same
        ∙ sym (later-contents hers d (releasing y.place false d) there))
        (later-older its c (releasing x.place false c) older)
        (later-older hers d (releasing y.place false d) there) next)

pub act-new : (job : Bytes) (config : Configuration) (r q : ℕ) (its hers : List ℕ) (c d : Chronicle)
    (def : JobDef) (name : Bytes) (environment : Bindings) → def.name ≡ job
    → instance_named (called job name) c ≡ None
    → contents its c ≡ contents hers d → AreOlder (length c) its → AreOlder (length d) hers
    → Acts job config r q c d
    → Does job config r q its hers c d (Aimed (length c) Start environment its ∷ Made def name ∷ [])
    (Aimed (length d) Start environment hers ∷ Made def name ∷ [])
act-new job config r q its hers c d def name environment named none same older there acts =
    Act (instance-at (length c) name def) (instance-at (length d) name def)
    (pair_start_new job config c d def name environment its hers named same older there none acts.like) refl refl
    acts.unsaid acts.unsaid_there
    (λ empty. subst (λ (ps : List ℕ). Held job r (Aimed (length c) Start environment ps ∷ Made def name ∷ c)
    (Aimed (length d) Start environment hers ∷ Made def name ∷ d)) (sym empty)
    (rw (own) (twins-with (λ u v. below r (holders u.place e) ≡ true) x y (instances_of job c)
    (instances_of job d) refl (rw (eq-eqb (length c) (length c) refl) refl) names
    (twins-more (λ u. below r (holders u.place c)) (λ u. true) (λ u. below r (holders u.place e)) (λ u. true)
    (instances_of job c) (instances_of job d)
    (λ u h. aimed-held r (length c) u.place Start environment (Made def name ∷ c) h) acts.held))))
    (λ empty. subst (λ (ps : List ℕ). HeldThere job q (Aimed (length c) Start environment its ∷ Made def name
    ∷ c) (Aimed (length d) Start environment ps ∷ Made def name ∷ d)) (sym empty)
    (rw (own) (twins-with (λ u v. true ≡ below q (holders v.place f)) x y (instances_of job c)
    (instances_of job d) refl (rw (eq-eqb (length d) (length d) refl) refl) names
    (twins-more_there (λ v. below q (holders v.place d)) (λ v. below q (holders v.place f))
    (instances_of job c) (instances_of job d)
    (λ v h. aimed-held q (length d) v.place Start environment (Made def name ∷ d) h) acts.held_there))))
  where
    own : bytes_eq def.name job ≡ true
    own = ap (λ k. bytes_eq k job) named ∙ bytes_refl job

    x : Instance
    x = instance-at (length c) name def

    y : Instance
    y = instance-at (length d) name def

    e : Chronicle
    e = Aimed (length c) Start environment [] ∷ Made def name ∷ c

    f : Chronicle
    f = Aimed (length d) Start environment [] ∷ Made def name ∷ d

    names : Twins (λ u v. u.name ≡ v.name) (instances_of job c) (instances_of job d)
    names = twins-names job config c d (instances_of job c) (instances_of job d) acts.like.twins
