-- Where the other instances of a job stand after one came or went, by comparing.
use Rattle.std.proofs.Common.{◌≡◌, ℕ, zero, suc, ◌<◌, ◌≤◌, ◌+◌, ◌-◌, ◌==◌, ◌&&◌, nat_lt, nat_le, Bool, true, false, if◌then◌else◌, refl, sym, ◌∙◌, ap, arith}
use Rattle.std.proofs.lemmas.Bool.{ltb-false, leb-false}
use Rattle.up_job.specs.declared.instance_key.InstanceKey.{InstanceKey}
use Rattle.up_ledger.specs.Requesting.{after_insert, after_remove, after_made, after_left}

removed-past : (p n : ℕ) → p < n → after_remove p n + 1 ≡ n
removed-past zero zero past = absurd (omega arith)
removed-past zero (suc n) past = omega arith
removed-past (suc p) zero past = absurd (omega arith)
removed-past (suc p) (suc n) past = omega (arith, removed-past p n (omega (arith, past)))

removed-before : (p n : ℕ) → n ≤ p → after_remove p n ≡ n
removed-before zero zero before = refl
removed-before zero (suc n) before = absurd (omega arith)
removed-before (suc p) zero before = refl
removed-before (suc p) (suc n) before = ap suc (removed-before p n (omega (arith, before)))

inserted-past : (p n : ℕ) → p ≤ n → after_insert p n ≡ n + 1
inserted-past zero n past = omega arith
inserted-past (suc p) zero past = absurd (omega arith)
inserted-past (suc p) (suc n) past = omega (arith, inserted-past p n (omega (arith, past)))

inserted-before : (p n : ℕ) → n < p → after_insert p n ≡ n
inserted-before zero n before = absurd (omega arith)
inserted-before (suc p) zero before = refl
inserted-before (suc p) (suc n) before = ap suc (inserted-before p n (omega (arith, before)))

at-most : (a b : ℕ) → nat_lt a b ≡ false → b ≤ a
at-most a b isnt = ltb-false a b isnt

less : (a b : ℕ) → nat_le a b ≡ false → b < a
less a b isnt = leb-false a b isnt

-- after the one of a key has left
pub left_so : (on : InstanceKey) (job at : ℕ) → (on.job == job) ≡ true → at < on.at → record { job = on.job; at = on.at - 1 } ≡ after_left job at on
left_so on job at same past =
    let less : after_remove at on.at ≡ on.at - 1 = omega (arith, removed-past at on.at past) in
    rw same (ap (λ n. record { job = on.job; at = n }) (sym less))

pub left_elsewhere : (on : InstanceKey) (job at : ℕ) → ((on.job == job) && nat_lt at on.at) ≡ false → on ≡ after_left job at on
left_elsewhere on job at isnt = by_job (on.job == job) refl
  where
    by_job : (b : Bool) → (on.job == job) ≡ b → on ≡ (if b then record { job = on.job; at = after_remove at on.at } else on)
    by_job true same =
        let before : nat_lt at on.at ≡ false = ap (λ b. b && nat_lt at on.at) (sym same) ∙ isnt in
        ap (λ n. record { job = on.job; at = n }) (sym (removed-before at on.at (at-most at on.at before)))
    by_job false differs = refl

-- and after one came to a key
pub made_so : (on : InstanceKey) (job at : ℕ) → (on.job == job) ≡ true → at ≤ on.at → record { job = on.job; at = on.at + 1 } ≡ after_made job at on
made_so on job at same past = rw same (ap (λ n. record { job = on.job; at = n }) (sym (inserted-past at on.at past)))

pub made_elsewhere : (on : InstanceKey) (job at : ℕ) → ((on.job == job) && nat_le at on.at) ≡ false → on ≡ after_made job at on
made_elsewhere on job at isnt = by_job (on.job == job) refl
  where
    by_job : (b : Bool) → (on.job == job) ≡ b → on ≡ (if b then record { job = on.job; at = after_insert at on.at } else on)
    by_job true same =
        let before : nat_le at on.at ≡ false = ap (λ b. b && nat_le at on.at) (sym same) ∙ isnt in
        ap (λ n. record { job = on.job; at = n }) (sym (inserted-before at on.at (less at on.at before)))
    by_job false differs = refl
