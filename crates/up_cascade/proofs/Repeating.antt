-- An instance that moves again, in code that counts its moves.
use Rattle.std.proofs.Common.{◌≡◌, ℕ, zero, suc, ◌+◌, ◌<◌, Bool, true, false, not, ◌++◌, Option, Some, if◌then◌else◌, refl, ◌∙◌, ap, arith}
use Rattle.up_conf.specs.declared.job.JobDef.{JobDef}
use Rattle.up_model.specs.declared.event_id.EventId.{EventId}
use Rattle.up_job.specs.declared.instance_key.InstanceKey.{InstanceKey}
use Rattle.up_book.specs.Keys.{instance_at}
use Rattle.up_model.specs.Predicates.{is_waiting}
use Rattle.up_cascade.specs.Settling.{settle_one, ListsAfter}
use Rattle.up_cascade.proofs.Settled.{StandsStill, gone-stays, one-stays}
use Rattle.up_model.specs.declared.state.State.{State}
use Rattle.up_model.specs.declared.state.State.TheVariants as state
use Rattle.up_model.specs.Chronicle.{Chronicle, Entered}
use Rattle.up_model.specs.Configuration.{Configuration}
use Rattle.up_model.specs.Instances.{Instance}
use Rattle.up_model.specs.Moves.{may_leave, next_of, move}

-- after so many moves it is still there, and this chronicle has come of them
pub record Again (stands : Chronicle → Type 0) (old : EventId → Option ℕ) (new : Chronicle → EventId → Option ℕ) (config : Configuration) (key : InstanceKey) (job : JobDef) (its : Instance) (turn : ℕ)
    (c : Chronicle) : Type 0 where
  pub d : Chronicle
  pub left : ℕ
  pub stood : stands d
  pub there : instance_at config d key ≡ Some its
  pub count : left + turn ≡ 5
  pub same : settle_one 5 job its c ≡ settle_one left job its d
  pub lists : ListsAfter true its c d
  pub events : (k : EventId) (j : ℕ) → old k ≡ Some j → new d k ≡ Some j

pub waiting-is : (to : State) → is_waiting to ≡ true → to ≡ state.Waiting
waiting-is state.Waiting is = refl
waiting-is to is = cc

pub still-is : (p : ℕ) (to : State) → is_waiting to ≡ false → StandsStill (Entered p to)
still-is p state.Waiting is = absurd cc
still-is p state.Starting is = tt
still-is p state.PreStart is = tt
still-is p state.Spawned is = tt
still-is p state.PostStart is = tt
still-is p state.Running is = tt
still-is p state.PreStop is = tt
still-is p state.Stopping is = tt
still-is p state.Killed is = tt
still-is p state.PostStop is = tt

pub not-true : (b : Bool) → true ≡ not b → b ≡ false
not-true true is = absurd cc
not-true false is = refl

pub not-false : (b : Bool) → false ≡ not b → b ≡ true
not-false true is = refl
not-false false is = absurd cc

-- one move more
pub record OneMore (left turn : ℕ) (job : JobDef) (x : Instance) (c : Chronicle) : Type 0 where
  pub rest : ℕ
  pub count : rest + (turn + 1) ≡ 5
  pub same : settle_one left job x c ≡ settle_one rest job x (move job x c ++ c)

pub one-more : (left turn : ℕ) (job : JobDef) (x : Instance) (c : Chronicle) → left + turn ≡ 5 → turn < 5 → may_leave job x.place c ≡ true → OneMore left turn job x c
one-more zero turn job x c count within may = absurd (omega (arith, count, within))
one-more (suc n) turn job x c count within may =
    record { rest = n; count = omega (arith, count); same = ap (λ (b : Bool). if b then settle_one n job x (move job x c ++ c) else c) may }

-- and with it the instance goes
pub one-gone : (left turn : ℕ) (job : JobDef) (x : Instance) (c : Chronicle) → left + turn ≡ 5 → turn < 5 → may_leave job x.place c ≡ true → next_of job x.place c ≡ state.Waiting
    → settle_one left job x c ≡ move job x c ++ c
one-gone left turn job x c count within may goes =
    let more = one-more left turn job x c count within may in
    more.same ∙ one-stays more.rest job x (move job x c ++ c) (gone-stays job x c goes)

pub none-more : (left : ℕ) (job : JobDef) (x : Instance) (c : Chronicle) → left ≡ 0 → settle_one left job x c ≡ c
none-more left job x c none = ap (λ n. settle_one n job x c) none
