-- What is kept of an instance decides on its kill as the model does, and so does the alarm.
use Rattle.std.proofs.Common.{◌≡◌, ℕ, ◌+◌, ◌-◌, ◌<◌, ◌≤◌, ◌==◌, nat_le, nat_lt, Bool, true, false, [], ◌∷◌, Option, None, Some, option_map, if◌then◌else◌, refl, arith}
use Rattle.up_model.specs.declared.input.Input.TheVariants as input
use Rattle.up_model.specs.Chronicle.{Chronicle, Given, Entered, Signalled}
use Rattle.up_model.specs.Clock.{has_passed, kill_due, kill_moment, milliseconds, now}
use Rattle.up_job.specs.declared.instance.Instance.{Instance}
use Rattle.up_job.specs.Alarms.{IsFrom}
use Rattle.up_job.specs.Timers.{is_overdue, kill_at, IsKept}

-- main got its signal when the clock read no more than it does
pub moment-past : (i : ℕ) (c : Chronicle) (m : ℕ) → kill_moment i c ≡ Some m → m ≤ now c
moment-past i [] m some = absurd cc
moment-past i (Entered other to ∷ c) m some = by_case (other == i) some (moment-past i c m)
  where
    by_case : (b : Bool) → (if b then None else kill_moment i c) ≡ Some m → (kill_moment i c ≡ Some m → m ≤ now c) → m ≤ now c
    by_case true some earlier = absurd cc
    by_case false some earlier = earlier some
moment-past i (Signalled other signal true ∷ c) m some = by_case (other == i) some (moment-past i c m)
  where
    by_case : (b : Bool) → (if b then None else kill_moment i c) ≡ Some m → (kill_moment i c ≡ Some m → m ≤ now c) → m ≤ now c
    by_case true some earlier = absurd cc
    by_case false some earlier = earlier some
moment-past i (Signalled other signal false ∷ c) m some = by_case (other == i) some (moment-past i c m)
  where
    by_case : (b : Bool) → (if b then Some (now c) else kill_moment i c) ≡ Some m → (kill_moment i c ≡ Some m → m ≤ now c) → m ≤ now c
    by_case true some earlier =
        let here : now c ≡ m = cc in
        omega (arith, here)
    by_case false some earlier = earlier some
moment-past i (Given (input.Clock reading) ∷ c) m some = by_case (nat_lt (now c) reading) refl (moment-past i c m some)
  where
    by_case : (b : Bool) → nat_lt (now c) reading ≡ b → m ≤ now c → m ≤ (if b then reading else now c)
    by_case true less before = grind (arith, before, less)
    by_case false more before = before
moment-past i (entry ∷ c) m some = moment-past i c m some

pub overdue_model : (place : ℕ) (c : Chronicle) (today : ℕ) (instance : Instance)
    → today ≡ now c → IsKept place c instance → is_overdue today instance ≡ kill_due instance.file place c
overdue_model place c today instance is kept =
    rw (is, kept.state, kept.main, kept.moment) refl

-- a span hasn't passed since then before its end
not-come : (today span moment : ℕ) → moment ≤ today → today < moment + span → nat_le span (today - moment) ≡ false
not-come today span moment past before = by_case (nat_le span (today - moment)) refl
  where
    by_case : (b : Bool) → nat_le span (today - moment) ≡ b → b ≡ false
    by_case true less = absurd (grind (arith, past, before, less))
    by_case false more = refl

-- so the timer kills nobody before its alarm
pub before-alarm : (alarm today : ℕ) (instance : Instance) → today < alarm → ((m : ℕ) → instance.kill_moment ≡ Some m → m ≤ today) → IsFrom alarm (kill_at instance)
    → has_passed instance.kill_moment today (milliseconds instance.file.kill_timeout) ≡ false
before-alarm alarm today instance before past from = by_moment instance.kill_moment past from
  where
    by_moment : (o : Option ℕ) → ((m : ℕ) → o ≡ Some m → m ≤ today) → IsFrom alarm (option_map (λ m. m + milliseconds instance.file.kill_timeout) o)
        → has_passed o today (milliseconds instance.file.kill_timeout) ≡ false
    by_moment None past from = refl
    by_moment (Some m) past from = not-come today (milliseconds instance.file.kill_timeout) m (past m refl) (omega (arith, before, from))
