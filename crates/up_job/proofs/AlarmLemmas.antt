-- The alarm isn't after a moment at which main of an instance is to be killed.
use Rattle.std.proofs.Common.{◌≡◌, ℕ, zero, suc, ◌≤◌, nat_lt, Bool, true, false, List, [], ◌∷◌, map, Option, None, Some, if◌then◌else◌, refl, arith}
use Rattle.up_conf.specs.Order.{is_below}
use Rattle.up_conf.specs.declared.job.JobDef.{JobDef}
use Rattle.up_model.specs.declared.state.State.{State}
use Rattle.up_model.specs.declared.state.State.TheVariants.{Starting}
use Rattle.up_job.specs.declared.change.Change.{Change}
use Rattle.up_job.specs.declared.change.Change.TheVariants as change
use Rattle.up_job.specs.declared.instance.Instance.{Instance}
use Rattle.up_job.specs.declared.instances.JobInstances.{JobInstances}
use Rattle.up_job.specs.Alarms.{IsFrom, AreFrom, AllFrom, alarm_after}
use Rattle.up_job.specs.Changes.{changed, entered}
use Rattle.up_job.specs.JobLists.{changed_in, new_job, removed_in, with_made}
use Rattle.up_job.specs.Lists.{with_at, with_named, without_at}
use Rattle.up_job.specs.Timers.{kill_at}

-- an earlier alarm
earlier-one : (b a : ℕ) (o : Option ℕ) → b ≤ a → IsFrom a o → IsFrom b o
earlier-one b a None less from = tt
earlier-one b a (Some at) less from = omega (arith, less, from)

pub earlier-list : (b a : ℕ) (xs : List Instance) → b ≤ a → AreFrom a xs → AreFrom b xs
earlier-list b a [] less from = tt
earlier-list b a (x ∷ xs) less from = (earlier-one b a (kill_at x) less from.0, earlier-list b a xs less from.1)

pub earlier-all : (b a : ℕ) (jobs : List JobInstances) → b ≤ a → AllFrom a jobs → AllFrom b jobs
earlier-all b a [] less from = tt
earlier-all b a (job ∷ jobs) less from = (earlier-list b a job.instances less from.0, earlier-all b a jobs less from.1)

-- the first alarm of all
from-zero : (xs : List Instance) → AreFrom 0 xs
from-zero [] = tt
from-zero (x ∷ xs) = (by_moment (kill_at x), from-zero xs)
  where
    by_moment : (o : Option ℕ) → IsFrom 0 o
    by_moment None = tt
    by_moment (Some at) = omega arith

pub all-zero : (jobs : List JobInstances) → AllFrom 0 jobs
all-zero [] = tt
all-zero (job ∷ jobs) = (from-zero job.instances, all-zero jobs)

pub all-new : (alarm : ℕ) (jobs : List JobDef) → AllFrom alarm (map new_job jobs)
all-new alarm [] = tt
all-new alarm (job ∷ jobs) = (tt, all-new alarm jobs)

-- one instance changes so that it is no earlier
abbrev pub Keeps : ℕ → (Instance → Instance) → Type 0
Keeps alarm f = (x : Instance) → IsFrom alarm (kill_at x) → IsFrom alarm (kill_at (f x))

from-with_at : (alarm at : ℕ) (f : Instance → Instance) → Keeps alarm f → (xs : List Instance) → AreFrom alarm xs → AreFrom alarm (with_at at f xs)
from-with_at alarm at f keeps [] from = tt
from-with_at alarm zero f keeps (x ∷ xs) from = (keeps x from.0, from.1)
from-with_at alarm (suc at) f keeps (x ∷ xs) from = (from.0, from-with_at alarm at f keeps xs from.1)

pub from-changed : (alarm at : ℕ) (f : Instance → Instance) → Keeps alarm f → (job : JobInstances) → AreFrom alarm job.instances → AreFrom alarm (changed_in at f job).instances
from-changed alarm at f keeps job from = from-with_at alarm at f keeps job.instances from

from-without : (alarm at : ℕ) (xs : List Instance) → AreFrom alarm xs → AreFrom alarm (without_at at xs)
from-without alarm at [] from = tt
from-without alarm zero (x ∷ xs) from = from.1
from-without alarm (suc at) (x ∷ xs) from = (from.0, from-without alarm at xs from.1)

pub from-removed : (alarm at : ℕ) (job : JobInstances) → AreFrom alarm job.instances → AreFrom alarm (removed_in at job).instances
from-removed alarm at job from = from-without alarm at job.instances from

pub from-made : (alarm : ℕ) (y : Instance) → IsFrom alarm (kill_at y) → (job : JobInstances) → AreFrom alarm job.instances → AreFrom alarm (with_made y job).instances
from-made alarm y new job from = among job.instances from
  where
    among : (xs : List Instance) → AreFrom alarm xs → AreFrom alarm (with_named (λ i. i.name) y xs)
    among [] from = (new, tt)
    among (x ∷ xs) from = by_case (is_below x.name y.name) (among xs from.1)
      where
        by_case : (b : Bool) → AreFrom alarm (with_named (λ i. i.name) y xs)
            → AreFrom alarm (if b then x ∷ with_named (λ i. i.name) y xs else y ∷ x ∷ xs)
        by_case true rest = (from.0, rest)
        by_case false rest = (new, from)

-- the alarm after a change is no later
least : (at alarm : ℕ) → (if nat_lt at alarm then at else alarm) ≤ alarm
least at alarm = by_case (nat_lt at alarm) refl
  where
    by_case : (b : Bool) → nat_lt at alarm ≡ b → (if b then at else alarm) ≤ alarm
    by_case true less = grind (arith, less)
    by_case false more = omega arith

pub after-earlier : (its : Change) (alarm : ℕ) → alarm_after its alarm ≤ alarm
after-earlier (change.Signals (Some moment)) alarm = least moment alarm
after-earlier (change.Signals None) alarm = omega arith
after-earlier (change.Starts environment holders) alarm = omega arith
after-earlier (change.Stops environment holders) alarm = omega arith
after-earlier change.Ends alarm = omega arith
after-earlier (change.Restarts holders) alarm = omega arith
after-earlier (change.Releases holders) alarm = omega arith
after-earlier (change.Fails failure) alarm = omega arith
after-earlier (change.Enters state) alarm = omega arith
after-earlier (change.Orders its) alarm = omega arith
after-earlier (change.Answers its pid) alarm = omega arith
after-earlier (change.Loses its) alarm = omega arith
after-earlier (change.Waits event) alarm = omega arith
after-earlier (change.Respawns moment) alarm = omega arith

below : (at alarm : ℕ) → (if nat_lt at alarm then at else alarm) ≤ at
below at alarm = by_case (nat_lt at alarm) refl
  where
    by_case : (b : Bool) → nat_lt at alarm ≡ b → (if b then at else alarm) ≤ at
    by_case true less = omega arith
    by_case false more = grind (arith, more)

gone-entered : (alarm : ℕ) (state : State) (x : Instance) → IsFrom alarm (kill_at (entered state x))
gone-entered alarm Starting x = tt
gone-entered alarm other x = tt

-- so it isn't after what the change brings
pub after-keeps : (its : Change) (alarm : ℕ) → Keeps (alarm_after its alarm) (changed its)
after-keeps (change.Signals (Some moment)) alarm x from = omega (arith, below moment alarm)
after-keeps (change.Signals None) alarm x from = tt
after-keeps (change.Starts environment holders) alarm x from = from
after-keeps (change.Stops environment holders) alarm x from = from
after-keeps change.Ends alarm x from = from
after-keeps (change.Restarts holders) alarm x from = from
after-keeps (change.Releases holders) alarm x from = from
after-keeps (change.Fails failure) alarm x from = from
after-keeps (change.Enters state) alarm x from = gone-entered alarm state x
after-keeps (change.Orders its) alarm x from = from
after-keeps (change.Answers its pid) alarm x from = from
after-keeps (change.Loses its) alarm x from = from
after-keeps (change.Waits event) alarm x from = from
after-keeps (change.Respawns moment) alarm x from = from
