-- Of which kinds the entries are that an offer makes.
use Rattle.std.proofs.Common.{ℕ, nat_lt, Bool, false, not, List, [], ◌∷◌, ◌++◌, length, Option, None, Some}
use Rattle.std.specs.List.{AllByRecursion}
use Rattle.up_conf.specs.declared.job.JobDef.{JobDef}
use Rattle.up_model.specs.declared.request.Answer.{Answer}
use Rattle.up_model.specs.declared.state.Goal.{Goal}
use Rattle.up_model.specs.declared.state.Goal.TheVariants.{Start, Stop}
use Rattle.up_model.specs.declared.who.Who.{Who}
use Rattle.up_model.specs.Chronicle.{Chronicle, Entry, Expression, Offered, Fired, Made, Aimed, Released, Replied, StartOn, StopOn}
use Rattle.up_model.specs.Configuration.{Configuration}
use Rattle.up_model.specs.Environments.{env_of_job, instance_name}
use Rattle.up_model.specs.Events.{events_at, events_env, stopped_by}
use Rattle.up_model.specs.Events as events_of
use Rattle.up_model.specs.Instances.{instances_of, instance_named}
use Rattle.up_model.specs.Offers.{stop_of, stop_by, stop_offer, max_instances, start_of, who_called, start_who, start_by, start_offer, start_env}
use Rattle.up_model.specs.Predicates.{is_start, entries_if}
use Rattle.up_model.specs.Readings.{goal}
use Rattle.up_model.specs.Replies.{releasing}
use Rattle.up_model.specs.Seen.{seen, holds, taken}
use Rattle.up_model.specs.Values.{Bytes, Bindings}
use Rattle.up_model.proofs.ReplyLaws.{releasing-all}
use Rattle.up_model.proofs.Sparing.{all-append, all-if}

-- a kind that all entries of a firing are of, but for an instance that is made
pub record Acts (P : Entry → Type 0) : Type 0 where
  pub fired : (x : Expression) (its : List ℕ) → P (Fired x its)
  pub aimed : (i : ℕ) (aim : Goal) (environment : Bindings) (its : List ℕ) → P (Aimed i aim environment its)
  pub released : (i : ℕ) (failed : Bool) → P (Released i failed)
  pub replied : (request : ℕ) (answer : Answer) → P (Replied request answer)

-- and the offer before it
pub record Fires (P : Entry → Type 0) : Type 0 where
  pub offered : (x : Expression) (event : ℕ) → P (Offered x event)
  pub acts : Acts P

pub releases : (P : Entry → Type 0) → Acts P → (i : ℕ) (c : Chronicle) → AllByRecursion P (releasing i false c)
releases P of i c = releasing-all P of.replied i false (of.released i false) c

-- what a `stop on` does that fires
pub stop-by : (P : Entry → Type 0) → Acts P → (i : ℕ) (events : List ℕ) (c : Chronicle) → AllByRecursion P (stop_by i events c)
stop-by P of i events c =
    all-if P (is_start (goal i c)) (stop_of i (stopped_by (events_at events c)) events c) (of.aimed i Stop (stopped_by (events_at events c)) events, releases P of i c)

pub stop-of : (P : Entry → Type 0) → Fires P → (config : Configuration) (job : JobDef) (i e : ℕ) (c : Chronicle) → AllByRecursion P (stop_offer config job i e c)
stop-of P of config job i e c =
    all-append P (entries_if (holds job.stop_on (seen config (StopOn i) d)) (stop_by i events f ++ Fired (StopOn i) events ∷ [])) (Offered (StopOn i) e ∷ [])
    (all-if P (holds job.stop_on (seen config (StopOn i) d)) (stop_by i events f ++ Fired (StopOn i) events ∷ [])
    (all-append P (stop_by i events f) (Fired (StopOn i) events ∷ []) (stop-by P of.acts i events f) (of.acts.fired (StopOn i) events, tt)))
    (of.offered (StopOn i) e, tt)
  where
    d : Chronicle
    d = Offered (StopOn i) e ∷ c

    events : List ℕ
    events = taken job.stop_on (seen config (StopOn i) d)

    f : Chronicle
    f = Fired (StopOn i) events ∷ d

-- what a `start on` does that fires
start-of : (P : Entry → Type 0) → Acts P → (job : JobDef) (who : Who) → P (Made job who.instance) → (environment : Bindings) (its : List ℕ) (o : Option ℕ) (c : Chronicle) → AllByRecursion P (start_of job who environment its o c)
start-of P of job who made environment its None c =
    all-if P (nat_lt (length (instances_of who.job c)) max_instances) (Aimed (length c) Start environment its ∷ Made job who.instance ∷ []) (of.aimed (length c) Start environment its, (made, tt))
start-of P of job who made environment its (Some p) c =
    all-if P (not (is_start (goal p c))) (Aimed p Start environment its ∷ releasing p false c) (of.aimed p Start environment its, releases P of p c)

pub start-who : (P : Entry → Type 0) → Acts P → (job : JobDef) → ((name : Bytes) → P (Made job name)) → (name : Option Bytes) (environment : Bindings) (its : List ℕ) (c : Chronicle)
    → AllByRecursion P (start_who job environment its (who_called job.name name) c)
start-who P of job made None environment its c = tt
start-who P of job made (Some name) environment its c =
    let who : Who = record { job = job.name; instance = name } in
    start-of P of job who (made name) (events_of.with_instance who environment) its (instance_named who c) c

pub start-by : (P : Entry → Type 0) → Acts P → (config : Configuration) (job : JobDef) → ((name : Bytes) → P (Made job name)) → (events : List ℕ) (c : Chronicle) → AllByRecursion P (start_by config job events c)
start-by P of config job made events c =
    let name : Option Bytes = instance_name job (events_env (env_of_job config job.name) (events_at events c)) in
    start-who P of job made name (start_env config (who_called job.name name) (events_at events c) c) events c

pub start-all : (P : Entry → Type 0) → Fires P → (config : Configuration) (job : JobDef) → ((name : Bytes) → P (Made job name)) → (e : ℕ) (c : Chronicle) → AllByRecursion P (start_offer config job e c)
start-all P of config job made e c =
    all-append P (entries_if (holds job.start_on (seen config x d)) (start_by config job events f ++ Fired x events ∷ [])) (Offered x e ∷ [])
    (all-if P (holds job.start_on (seen config x d)) (start_by config job events f ++ Fired x events ∷ [])
    (all-append P (start_by config job events f) (Fired x events ∷ []) (start-by P of.acts config job made events f) (of.acts.fired x events, tt)))
    (of.offered x e, tt)
  where
    x : Expression
    x = StartOn job.name

    d : Chronicle
    d = Offered x e ∷ c

    events : List ℕ
    events = taken job.start_on (seen config x d)

    f : Chronicle
    f = Fired x events ∷ d
