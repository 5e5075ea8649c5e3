-- A chronicle stays one that a run brings about.
use Rattle.std.proofs.Common.{◌≡◌, ℕ, ◌<◌, ◌≤◌, ◌==◌, nat_lt, Bool, true, false, List, [], ◌∷◌, length, None, Some, bytes_eq, if◌then◌else◌, refl, sym, ◌∙◌, ap, subst, arith, ne_eqb}
use Rattle.std.proofs.lemmas.Bool.{ltb-true}
use Rattle.std.specs.List.{AllByRecursion}
use Rattle.up_model.specs.declared.input.Input.TheVariants as input
use Rattle.up_model.specs.Chronicle.{Chronicle, Entry, Given, Queued, Made, Released, Respawned, Entered, Outside}
use Rattle.up_model.specs.Clock.{now}
use Rattle.up_model.specs.Configuration.{Configuration, job_named}
use Rattle.up_model.specs.Held.{has, is_spoilt}
use Rattle.up_model.specs.Instances.{with_instance, without_instance, instances_of}
use Rattle.up_model.specs.Readings.{holders}
use Rattle.up_model.specs.Values.{Bytes}
use Rattle.up_model.specs.declared.state.State.TheVariants as state
use Rattle.up_model.proofs.Places.{bytes_same}
use Rattle.up_model.proofs.NameLaws.{Singles, entered-singles, made-singles}
use Rattle.up_ledger.specs.Regular.{AreOlderOrigins, IsRegular, MayFollow}
use Rattle.up_job.specs.Moments.{moments_of, Falls}
use Rattle.up_job.proofs.MomentLemmas.{falls-later}

clock-later : (n m : ℕ) → n ≤ (if nat_lt n m then m else n)
clock-later n m = by_case (nat_lt n m) refl
  where
    by_case : (b : Bool) → nat_lt n m ≡ b → n ≤ (if b then m else n)
    by_case true before = omega (arith, ltb-true n m before)
    by_case false before = omega arith

now-later : (c : Chronicle) (e : Entry) → now c ≤ now (e ∷ c)
now-later c (Given (input.Clock reading)) = clock-later (now c) reading
now-later c e = omega arith

-- what is older isn't what is to come
none-older : (event n : ℕ) (places : List ℕ) → n ≤ event → AllByRecursion (λ place. place < n) places → has event places ≡ false
none-older event n [] past all = refl
none-older event n (place ∷ places) past all =
    let apart : (place == event) ≡ false = ne_eqb place event (λ same. omega (arith, all.0, past)) in
    rw (apart, none-older event n places past all.1) refl

singles-next : (config : Configuration) (c : Chronicle) (e : Entry) → Singles c → MayFollow config c e → Singles (e ∷ c)
singles-next config c (Made file name) single follow = made-singles file name c follow.0 single
singles-next config c (Entered i to) single follow = entered-singles i to c single
singles-next config c e single follow = single

origins-next : (config : Configuration) (c : Chronicle) (e : Entry) → AreOlderOrigins c → MayFollow config c e → AreOlderOrigins (e ∷ c)
origins-next config c (Queued (Outside given) event) origins follow = (follow, origins)
origins-next config c e origins follow = origins

-- a job that the table hasn't gets no instance
known-next : (config : Configuration) (c : Chronicle) (e : Entry) → ((job : Bytes) → job_named job config.jobs ≡ None → instances_of job c ≡ []) → MayFollow config c e
    → (job : Bytes) → job_named job config.jobs ≡ None → instances_of job (e ∷ c) ≡ []
known-next config c (Made file name) known follow job none = by_case (bytes_eq file.name job) refl
  where
    by_case : (b : Bool) → bytes_eq file.name job ≡ b → (if b then with_instance (record { place = length c; name = name; file = file }) (instances_of job c) else instances_of job c) ≡ []
    by_case true same =
        let both : None ≡ Some file = sym none ∙ ap (λ n. job_named n config.jobs) (sym (bytes_same file.name job same)) ∙ follow.1 in
        absurd cc
    by_case false differs = known job none
known-next config c (Entered i state.Waiting) known follow job none = ap (without_instance i) (known job none)
known-next config c e known follow job none = known job none

unspoilt-next : (config : Configuration) (c : Chronicle) (e : Entry) → ((event : ℕ) → length c ≤ event → is_spoilt event c ≡ false) → MayFollow config c e → (event : ℕ) → length (e ∷ c) ≤ event → is_spoilt event (e ∷ c) ≡ false
unspoilt-next config c (Released i true) unspoilt follow event past =
    rw (none-older event (length c) (holders i c) (omega (arith, past)) follow) (unspoilt event (omega (arith, past)))
unspoilt-next config c e unspoilt follow event past = unspoilt event (omega (arith, past))

falling-next : (config : Configuration) (c : Chronicle) (e : Entry) → ((i : ℕ) → Falls (now c) (moments_of i c)) → MayFollow config c e → (i : ℕ) → Falls (now (e ∷ c)) (moments_of i (e ∷ c))
falling-next config c (Respawned other moment) falling follow i = by_case (other == i)
  where
    by_case : (b : Bool) → Falls (now c) (if b then moment ∷ moments_of i c else moments_of i c)
    by_case true = (omega (arith, follow), subst (λ m. Falls m (moments_of i c)) (sym follow) (falling i))
    by_case false = falling i
falling-next config c e falling follow i = falls-later (now c) (now (e ∷ c)) (moments_of i c) (now-later c e) (falling i)

pub regular-next : (config : Configuration) (c : Chronicle) (e : Entry) → IsRegular config c → MayFollow config c e → IsRegular config (e ∷ c)
regular-next config c e r follow = record {
  origins = origins-next config c e r.origins follow;
  unspoilt = unspoilt-next config c e r.unspoilt follow;
  singles = singles-next config c e r.singles follow;
  known = known-next config c e r.known follow;
  falling = falling-next config c e r.falling follow;
}
