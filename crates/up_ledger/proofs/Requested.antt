-- The answer that ends a step tells of the instance that the request acted on, even if it has gone.
use Rattle.std.proofs.Common.{◌≡◌, ℕ, zero, suc, ◌+◌, ◌<◌, ◌==◌, Bool, true, false, List, [], ◌∷◌, length, map, Option, None, Some, if◌then◌else◌, refl, ◌∙◌, ap, arith, eqb-true, eq-eqb}
use Rattle.up_job.specs.Lists.{nth, with_named, without_at, position_in}
use Rattle.up_conf.specs.Order.{is_below}
use Rattle.up_conf.specs.declared.job.JobDef.{JobDef}
use Rattle.up_stanza.specs.declared.process.Process.{Process}
use Rattle.up_stanza.specs.declared.process.Process.TheVariants as process
use Rattle.up_model.specs.declared.state.Goal.{Goal}
use Rattle.up_model.specs.declared.state.State.TheVariants as state
use Rattle.up_model.specs.declared.who.Who.{Who}
use Rattle.up_model.specs.Chronicle.{Chronicle, Entry, Given, Made, Aimed, Restarted, Entered}
use Rattle.up_model.specs.Configuration.{Configuration}
use Rattle.up_model.specs.Instances.{Instance, without_instance, instances_of, all_instances}
use Rattle.up_model.specs.Readings.{made_at, goal, state_of, pid_of}
use Rattle.up_model.specs.Replies.{own_process, pid_if, status_as, status_of, request_instance}
use Rattle.up_model.specs.Status.{status_text}
use Rattle.up_model.specs.Values.{Bytes, Bindings}
use Rattle.up_model.proofs.Places.{older-other, count, one_if}
use Rattle.up_job.specs.declared.instance_key.InstanceKey.{InstanceKey}
use Rattle.up_book.specs.Keys.{instance_place}
use Rattle.up_book.specs.Summaries.{summary}
use Rattle.up_book.proofs.One.{there}
use Rattle.up_ledger.specs.declared.step.ActedOn.{ActedOn}
use Rattle.up_ledger.specs.declared.step.ActedOn.TheVariants.{Exists, Gone}
use Rattle.up_ledger.specs.Requesting.{IsGone, OnMeans, after_insert, after_remove}
use Rattle.up_book.specs.Sending.{status_by}
use Rattle.up_ledger.proofs.Outgoing.{made-there}

-- entries that don't speak of an instance leave its status text
abbrev pub Mentions : ℕ → Entry → Bool
Mentions i (Given input) = true
Mentions i (Aimed j aim environment its) = j == i
Mentions i (Entered j entered) = j == i
Mentions i entry = false

goal-apart : (i : ℕ) (e : Entry) (c : Chronicle) → Mentions i e ≡ false → goal i (e ∷ c) ≡ goal i c
goal-apart i (Aimed j aim environment its) c apart = rw apart refl
goal-apart i e c apart = refl

state-apart : (i : ℕ) (e : Entry) (c : Chronicle) → Mentions i e ≡ false → state_of i (e ∷ c) ≡ state_of i c
state-apart i (Entered j entered) c apart = rw apart refl
state-apart i e c apart = refl

pid-apart : (i : ℕ) (its : Process) (e : Entry) (c : Chronicle) → Mentions i e ≡ false → i < length c → pid_of i its (e ∷ c) ≡ pid_of i its c
pid-apart i its (Given input) c apart older = absurd cc
pid-apart i its (Made file name) c apart older = rw (older-other (length c) i older) refl
pid-apart i its e c apart older = refl

own-apart : (i : ℕ) (o : Option Process) (e : Entry) (c : Chronicle) → Mentions i e ≡ false → i < length c → pid_if i o (e ∷ c) ≡ pid_if i o c
own-apart i None e c apart older = refl
own-apart i (Some its) e c apart older = pid-apart i its e c apart older

status_as-apart : (who : Option Who) (i : ℕ) (e : Entry) (c : Chronicle) → Mentions i e ≡ false → i < length c → status_as who i (e ∷ c) ≡ status_as who i c
status_as-apart None i e c apart older = refl
status_as-apart (Some who) i e c apart older =
    let own : pid_if i (own_process (state_of i (e ∷ c))) (e ∷ c) ≡ pid_if i (own_process (state_of i c)) c = ap (λ s. pid_if i (own_process s) (e ∷ c)) (state-apart i e c apart) ∙ own-apart i (own_process (state_of i c)) e c apart older in
    ap (λ g. status_text who g (state_of i (e ∷ c)) (pid_of i process.Main (e ∷ c)) (pid_if i (own_process (state_of i (e ∷ c))) (e ∷ c))) (goal-apart i e c apart)
    ∙ ap (λ s. status_text who (goal i c) s (pid_of i process.Main (e ∷ c)) (pid_if i (own_process (state_of i (e ∷ c))) (e ∷ c))) (state-apart i e c apart)
    ∙ ap (λ m. status_text who (goal i c) (state_of i c) m (pid_if i (own_process (state_of i (e ∷ c))) (e ∷ c))) (pid-apart i process.Main e c apart older)
    ∙ ap (λ o. status_text who (goal i c) (state_of i c) (pid_of i process.Main c) o) own

pub status-apart : (i : ℕ) (e : Entry) (c : Chronicle) → Mentions i e ≡ false → i < length c → status_of i (e ∷ c) ≡ status_of i c
status-apart i e c apart older =
    let made : made_at i (e ∷ c) ≡ made_at i c = rw (older-other (length c) i older) refl in
    ap (λ who. status_as who i (e ∷ c)) made ∙ status_as-apart (made_at i c) i e c apart older

-- the text that is to be kept of an instance that leaves
pub status-left : (config : Configuration) (c : Chronicle) (at : ℕ) (job : JobDef) (x : Instance) → nth at (instances_of job.name c) ≡ Some x → x.place < length c
    → status_of x.place (Entered x.place state.Waiting ∷ c) ≡ status_by job (record (summary c x) { state = state.Waiting })
status-left config c at job x here older = rw (older-other (length c) x.place older, made-there at job x c here, eq-eqb x.place x.place refl) refl

count-gone : (p : ℕ) (xs : List Instance) → count p (without_instance p xs) ≡ 0
count-gone p [] = refl
count-gone p (x ∷ xs) = by_case (x.place == p) refl (count-gone p xs)
  where
    by_case : (b : Bool) → (x.place == p) ≡ b → count p (without_instance p xs) ≡ 0 → count p (if b then without_instance p xs else x ∷ without_instance p xs) ≡ 0
    by_case true same ih = ih
    by_case false differs ih = rw differs (omega (arith, ih))

none-without : (p i : ℕ) (xs : List Instance) → count p xs ≡ 0 → count p (without_instance i xs) ≡ 0
none-without p i [] none = refl
none-without p i (x ∷ xs) none = by_case (x.place == i) (none-without p i xs (omega (arith, none)))
  where
    by_case : (b : Bool) → count p (without_instance i xs) ≡ 0 → count p (if b then without_instance i xs else x ∷ without_instance i xs) ≡ 0
    by_case true ih = ih
    by_case false ih = omega (arith, ih, none)

-- it is gone, and stays so
pub left-gone : (i : ℕ) (c : Chronicle) → i < length c → IsGone i (Entered i state.Waiting ∷ c)
left-gone i c older = (omega (arith, older), count-gone i (all_instances c))

pub gone-later : (i : ℕ) (e : Entry) (c : Chronicle) → IsGone i c → IsGone i (e ∷ c)
gone-later i (Made file name) c gone =
    let apart : one_if (length c == i) ≡ 0 = ap one_if (older-other (length c) i gone.0) in
    (omega (arith, gone.0), omega (arith, apart, gone.1))
gone-later i (Entered j state.Waiting) c gone = (omega (arith, gone.0), none-without i j (all_instances c) gone.1)
gone-later i e c gone = (omega (arith, gone.0), gone.1)

-- an instance that exists isn't one that is gone
pub other-gone : (i j : ℕ) (c : Chronicle) → IsGone i c → 0 < count j (all_instances c) → (j == i) ≡ false
other-gone i j c gone exists = by_case (j == i) refl
  where
    by_case : (b : Bool) → (j == i) ≡ b → b ≡ false
    by_case true same =
        let none : count j (all_instances c) ≡ 0 = ap (λ p. count p (all_instances c)) (eqb-true j i same) ∙ gone.1 in
        absurd (omega (arith, none, exists))
    by_case false differs = refl

-- What the request acted on, as entries are added.
-- an input: nothing yet
pub on-given : (config : Configuration) (c : Chronicle) (input : Rattle.up_model.specs.declared.input.Input.Input) → OnMeans config (Given input ∷ c) None
on-given config c input = refl

-- a goal that changes, and a restart: the instance of this key
pub on-aimed : (config : Configuration) (c : Chronicle) (key : InstanceKey) (i : ℕ) (aim : Goal) (environment : Bindings) (its : List ℕ) → instance_place config c key ≡ Some i
    → OnMeans config (Aimed i aim environment its ∷ c) (Some (Exists key))
on-aimed config c key i aim environment its there = (i, refl, there)

pub on-restarted : (config : Configuration) (c : Chronicle) (key : InstanceKey) (i : ℕ) (its : List ℕ) → instance_place config c key ≡ Some i
    → OnMeans config (Restarted i its ∷ c) (Some (Exists key))
on-restarted config c key i its there = (i, refl, there)

-- an entry that changes no key's place, about an instance that exists
abbrev pub IsPlain : Entry → Type 0
IsPlain (Given input) = ⊥
IsPlain (Aimed i aim environment its) = ⊥
IsPlain (Restarted i its) = ⊥
IsPlain entry = Unit {0}

pub request-plain : (e : Entry) (c : Chronicle) → IsPlain e → request_instance (e ∷ c) ≡ request_instance c
request-plain (Given input) c is = absurd is
request-plain (Aimed i aim environment its) c is = absurd is
request-plain (Restarted i its) c is = absurd is
request-plain e c is = refl

-- where the instance of each key stands afterwards is the only thing to be shown, and that one that is gone isn't entered upon
pub on-later : (config : Configuration) (e : Entry) (c : Chronicle) (on : Option ActedOn) (move : InstanceKey → InstanceKey) → IsPlain e
    → ((key : InstanceKey) (i : ℕ) → on ≡ Some (Exists key) → request_instance c ≡ Some i → instance_place config c key ≡ Some i → instance_place config (e ∷ c) (move key) ≡ Some i)
    → ((i : ℕ) → IsGone i c → Mentions i e ≡ false)
    → OnMeans config c on → OnMeans config (e ∷ c) (Rattle.up_ledger.specs.Requesting.moved_on move on)
on-later config e c None move is places apart means = request-plain e c is ∙ means
on-later config e c (Some (Exists key)) move is places apart means =
    (means.0, request-plain e c is ∙ means.1, places key means.0 refl means.1 means.2)
on-later config e c (Some (Gone text)) move is places apart means =
    let gone : IsGone means.0 c = means.3 in
    (means.0, request-plain e c is ∙ means.1, status-apart means.0 e c (apart means.0 gone) gone.0 ∙ means.2, gone-later means.0 e c gone)

-- keys of a job's other instances, when one comes or goes
add-one : {n : ℕ} → n + 1 ≡ suc n
add-one = omega arith

pub nth-inserted : {X : Type 0} (of : X → Bytes) (x : X) (xs : List X) (n : ℕ) → nth (after_insert (position_in (of x) (map of xs)) n) (with_named of x xs) ≡ nth n xs
nth-inserted of x [] n = refl
nth-inserted of x (y ∷ ys) n = by_case (is_below (of y) (of x)) n (nth-inserted of x ys)
  where
    by_case : (b : Bool) (m : ℕ) → ((k : ℕ) → nth (after_insert (position_in (of x) (map of ys)) k) (with_named of x ys) ≡ nth k ys)
        → nth (after_insert (if b then position_in (of x) (map of ys) + 1 else 0) m) (if b then y ∷ with_named of x ys else x ∷ y ∷ ys) ≡ nth m (y ∷ ys)
    by_case true zero ih = rw add-one refl
    by_case true (suc m) ih = rw add-one (ih m)
    by_case false m ih = refl

pub nth-removed : {X : Type 0} (p n : ℕ) (xs : List X) → (n ≡ p → ⊥) → nth (after_remove p n) (without_at p xs) ≡ nth n xs
nth-removed p n [] apart = refl
nth-removed zero zero (x ∷ xs) apart = absurd (apart refl)
nth-removed zero (suc n) (x ∷ xs) apart = refl
nth-removed (suc p) zero (x ∷ xs) apart = refl
nth-removed (suc p) (suc n) (x ∷ xs) apart = nth-removed p n xs (λ same. apart (ap suc same))
