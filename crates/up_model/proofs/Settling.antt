-- Doing what is due comes to rest, and the count by which it is done is enough.
use Rattle.std.proofs.Common.{◌≡◌, ℕ, zero, suc, ◌<◌, ◌≤◌, ◌⊎◌, inl, inr, [], ◌++◌, refl, sym, ◌∙◌, ap, arith}
use Rattle.up_model.specs.Configuration.{Configuration}
use Rattle.up_model.specs.declared.input.Input.{Input}
use Rattle.up_model.specs.declared.input.Input.TheVariants as input
use Rattle.up_model.specs.declared.loaded.Loaded.{Loaded as LoadedValue}
use Rattle.up_model.specs.Chronicle.{Chronicle}
use Rattle.up_model.specs.Due.{due, effect}
use Rattle.up_model.specs.Work.{work, settle}
use Rattle.up_model.specs.Answers.{after}
use Rattle.up_model.specs.Loads.{in_force}
use Rattle.up_model.proofs.LoadLaws.{settle-in_force, HaveJobs, load-rests}
use Rattle.up_model.proofs.WorkLaws.{falls}

-- where nothing is due, nothing changes
pub settle_still : (n : ℕ) (config : Configuration) (c : Chronicle) → due config c ≡ [] → settle n config c ≡ c
unfolding settle
settle_still zero config c none = refl
settle_still (suc n) config c none = ap (λ es. settle n config (es ++ c)) none ∙ settle_still n config c none

-- a count is as good as another, if both are enough
pub settle_enough : (n m : ℕ) (config : Configuration) (c : Chronicle) → work config c ≤ n → work config c ≤ m
    → settle n config c ≡ settle m config c
unfolding settle
settle_enough zero zero config c h k = refl
settle_enough zero (suc m) config c h k = by_case (falls config c)
  where
    by_case : (due config c ≡ []) ⊎ (work config (due config c ++ c) < work config c) → c ≡ settle (suc m) config c
    by_case (inl none) = sym (settle_still (suc m) config c none)
    by_case (inr less) = absurd (omega arith)
settle_enough (suc n) zero config c h k = by_case (falls config c)
  where
    by_case : (due config c ≡ []) ⊎ (work config (due config c ++ c) < work config c) → settle (suc n) config c ≡ c
    by_case (inl none) = settle_still (suc n) config c none
    by_case (inr less) = absurd (omega arith)
settle_enough (suc n) (suc m) config c h k = by_case (falls config c) (settle_enough n m config (due config c ++ c))
  where
    by_case : (due config c ≡ []) ⊎ (work config (due config c ++ c) < work config c)
        → (work config (due config c ++ c) ≤ n → work config (due config c ++ c) ≤ m → settle n config (due config c ++ c) ≡ settle m config (due config c ++ c))
        → settle (suc n) config c ≡ settle (suc m) config c
    by_case (inl none) ih = settle_still (suc n) config c none ∙ sym (settle_still (suc m) config c none)
    by_case (inr less) ih = ih (omega arith) (omega arith)

-- nothing is due after enough
pub settle_rest : (n : ℕ) (config : Configuration) (c : Chronicle) → work config c ≤ n → due config (settle n config c) ≡ []
unfolding settle
settle_rest zero config c h = by_case (falls config c)
  where
    by_case : (due config c ≡ []) ⊎ (work config (due config c ++ c) < work config c) → due config c ≡ []
    by_case (inl none) = none
    by_case (inr less) = absurd (omega arith)
settle_rest (suc n) config c h = by_case (falls config c) (settle_rest n config (due config c ++ c))
  where
    by_case : (due config c ≡ []) ⊎ (work config (due config c ++ c) < work config c)
        → (work config (due config c ++ c) ≤ n → due config (settle n config (due config c ++ c)) ≡ [])
        → due config (settle (suc n) config c) ≡ []
    by_case (inl none) ih = ap (due config) (settle_still (suc n) config c none) ∙ none
    by_case (inr less) ih = ih (omega arith)

-- and the count that `after` gives is enough
pub settle_rests : (config : Configuration) (c : Chronicle) → due config (settle (work config c) config c) ≡ []
settle_rests config c = settle_rest (work config c) config c (omega arith)

-- nothing is due after an input
pub after_rests : (config : Configuration) (c : Chronicle) (given : Input) → due (in_force config (after config c given)) (after config c given) ≡ []
unfolding after
after_rests config c given =
    let d : Chronicle = effect (in_force config c) given c ++ c in
    let now : Configuration = in_force config d in
    ap (λ config. due config (settle (work now d) now d)) (settle-in_force config (work now d) now d) ∙ settle_rests now d

-- so a load leaves nothing to be done, if nothing was due before
pub after-load : (config : Configuration) (c : Chronicle) (id : ℕ) (its : LoadedValue) → HaveJobs (in_force config c).jobs c → due (in_force config c) c ≡ []
    → after config c (input.Load id its) ≡ effect (in_force config c) (input.Load id its) c ++ c
unfolding after
after-load config c id its have none =
    let d : Chronicle = effect (in_force config c) (input.Load id its) c ++ c in
    settle_still (work (in_force config d) d) (in_force config d) d (load-rests config id its c have none)
