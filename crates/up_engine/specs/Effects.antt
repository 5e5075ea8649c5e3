-- What the effect of an input hands on.
use Rattle.std.specs.Prelude.{◌≡◌, ℕ, List, [], ◌∷◌, ◌++◌, Option, None, Some}
use Rattle.up_book.specs.Keys.{instance_at, instance_place}
use Rattle.up_engine.specs.declared.due.Concern.{Concern}
use Rattle.up_engine.specs.declared.due.Concern.TheVariants.{Nobody, Client, Instance as Instance', Event, Anybody}
use Rattle.up_cascade.specs.Settling.{settle_one, settle_all}
use Rattle.up_job.specs.declared.instance_key.InstanceKey.{InstanceKey}
use Rattle.up_model.specs.declared.event_id.EventId.{EventId}
use Rattle.up_model.specs.declared.failure.Verdict.{Verdict}
use Rattle.up_model.specs.declared.input.Input.{Input}
use Rattle.up_model.specs.declared.input.Input.TheVariants.{Turn}
use Rattle.up_model.specs.declared.who.Who.{Who}
use Rattle.up_model.specs.Chronicle.{Chronicle, Entry, Given, Handled}
use Rattle.up_model.specs.Configuration.{Configuration}
use Rattle.up_model.specs.Due.{due, effect}
use Rattle.up_model.specs.Instances.{Instance, instance_named}
use Rattle.up_model.specs.Judgement.{carry_out}
use Rattle.up_model.specs.Offers.{offering}

-- what the end of a process does: nothing, or what a verdict on an instance does
abbrev pub Judges : Configuration → Option (InstanceKey × Verdict) → (does : List Entry) → Chronicle → Type 0
Judges config None does c = does ≡ []
Judges config (Some found) does c = (i : ℕ) × ((instance_place config c found.0 ≡ Some i)
    × (does ≡ carry_out i found.1 c))

-- the instance of a key alone may move, and no event is taken up
pub record IsAlone (key : InstanceKey) (config : Configuration) (c : Chronicle) : Type 0 where
  pub its : Instance
  pub there : instance_at config c key ≡ Some its
  pub settles : settle_all config.jobs c ≡ settle_one 5 its.file its c
  pub unasked : offering c ≡ None

-- no instance may move, and no event is taken up
pub record IsIdle (config : Configuration) (c : Chronicle) : Type 0 where
  pub still : settle_all config.jobs c ≡ c
  pub unasked : offering c ≡ None

-- whom the effect of an input concerns, if nothing was due before it: nobody, so that nothing is due after it; the client of a request alone,
-- who may be answered; an instance; those that hear of an event, which it takes up; or whoever may move
abbrev pub Concerns : (Chronicle → EventId → Option ℕ) → Concern → Configuration → Input → Chronicle → Type 0
Concerns places Nobody config given c = due config c ≡ [] → due config (effect config given c ++ c) ≡ []
Concerns places Client config given c = due config c ≡ [] → IsIdle config (effect config given c ++ c)
Concerns places (Instance' key) config given c = due config c ≡ [] → IsAlone key config (effect config given c ++ c)
Concerns places (Event key) config given c = (e : ℕ) × (effect config given c ++ c ≡ Handled e ∷ Given Turn ∷ c)
    × (places (Handled e ∷ Given Turn ∷ c) key ≡ Some e)
Concerns places Anybody config given c = offering (effect config given c ++ c) ≡ None

-- whom the entries after a request concern, if nothing was due before it: nobody, its client, or an instance
abbrev pub ActsOn : Concern → Configuration → (before after : Chronicle) → Type 0
ActsOn Nobody config c d = due config c ≡ [] → due config d ≡ []
ActsOn Client config c d = due config c ≡ [] → offering d ≡ None → IsIdle config d
ActsOn (Instance' key) config c d = due config c ≡ [] → offering d ≡ None → IsAlone key config d
ActsOn (Event key) config c d = ⊥
ActsOn Anybody config c d = ⊥

-- an instance by its names, if it is there; and else the client alone
abbrev pub IsCalled : Concern → Configuration → Who → Chronicle → Type 0
IsCalled (Instance' key) config who c = (i : ℕ) × ((instance_place config c key ≡ Some i) × (instance_named who c ≡ Some i))
IsCalled Client config who c = instance_named who c ≡ None
IsCalled Anybody config who c = ⊥
IsCalled Nobody config who c = ⊥
IsCalled (Event key) config who c = ⊥

-- whom the answer for a process concerns, or its end, by the key of its instance
abbrev pub concern_of : Option InstanceKey → Concern
concern_of None = Anybody
concern_of (Some key) = Instance' key

-- whom an event concerns that has finished, by the key of the instance that waited for it
abbrev pub unblocked_concern : Option InstanceKey → Concern
unblocked_concern None = Nobody
unblocked_concern (Some key) = Instance' key
