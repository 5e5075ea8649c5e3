-- What a step comes to, in a run whose configuration loads exchange.
use Rattle.std.proofs.Common.{◌≡◌, ◌∙◌, ℕ, true, false, [], ◌∷◌, ◌++◌, None, refl, sym, ap, subst}
use Rattle.up_cascade.specs.Settling.{after_in}
use Rattle.up_cascade.specs.Unfired.{NoneHolds, IsAtRest}
use Rattle.up_cascade.proofs.LoadLemmas.{not-load}
use Rattle.up_engine.proofs.Untrue.{rest-in}
use Rattle.up_cascade.proofs.Unfired.{none-entry, none-loaded}
use Rattle.up_book.specs.Keeps.{AreDistinct}
use Rattle.up_book.specs.Keys.{SpeaksOf}
use Rattle.up_model.specs.declared.input.Input.{Input}
use Rattle.up_model.specs.declared.input.Input.TheVariants as input
use Rattle.up_model.specs.declared.loaded.Loaded.{Loaded as LoadedValue}
use Rattle.up_model.specs.declared.loaded.Loaded.TheVariants as loaded
use Rattle.up_model.specs.Answers.{after}
use Rattle.up_model.specs.Chronicle.{Chronicle, Given, Loaded}
use Rattle.up_model.specs.Configuration.{Configuration}
use Rattle.up_model.specs.Due.{due, effect}
use Rattle.up_model.specs.Loads.{in_force, is_load, with_jobs}
use Rattle.up_model.proofs.LoadLaws.{HaveJobs, after-same, after-unloaded, load-rests}
use Rattle.up_model.proofs.Settling.{settle_still, after_rests}

-- an input that is no load leaves the configuration in force, and comes to the same in it
pub unloaded-after : (start : Configuration) (c : Chronicle) (given : Input) → is_load given ≡ false → after_in (in_force start c) c given ≡ after start c given
unfolding after_in
unloaded-after start c given is = sym (after-same start c given (not-load given is))

pub unloaded-force : (start : Configuration) (c : Chronicle) (given : Input) → is_load given ≡ false → in_force start c ≡ in_force start (after start c given)
unloaded-force start c given is = sym (after-unloaded start c given (not-load given is))

-- a load has its effect, and nothing is due then
pub loaded-after : (start : Configuration) (c : Chronicle) (given : Input) → is_load given ≡ true → HaveJobs (in_force start c).jobs c → due (in_force start c) c ≡ []
    → effect (in_force start c) given c ++ c ≡ after start c given
unfolding after
loaded-after start c (input.Load id its) is have none = sym (settle_still _ _ _ (load-rests start id its c have none))
loaded-after start c (input.Emit event) is have none = absurd cc
loaded-after start c (input.Request id request) is have none = absurd cc
loaded-after start c (input.Spawned who process pid) is have none = absurd cc
loaded-after start c (input.Refused who process) is have none = absurd cc
loaded-after start c (input.Ended who process how) is have none = absurd cc
loaded-after start c (input.Clock reading) is have none = absurd cc
loaded-after start c input.Turn is have none = absurd cc

-- the same by the configuration that is in force
pub loaded-whole : (start config : Configuration) (c : Chronicle) (given : Input) → config ≡ in_force start c → is_load given ≡ true → HaveJobs config.jobs c → due config c ≡ []
    → effect config given c ++ c ≡ after start c given
loaded-whole start config c given same is have none =
    ap (λ conf. effect conf given c ++ c) same ∙ loaded-after start c given is (subst (λ (conf : Configuration). HaveJobs conf.jobs c) same have) (ap (λ conf. due conf c) (sym same) ∙ none)

-- a load speaks of no process
pub speaks-load : (config : Configuration) (given : Input) (c : Chronicle) → is_load given ≡ true → SpeaksOf config None given c
speaks-load config (input.Load id its) c is = tt
speaks-load config (input.Emit event) c is = tt
speaks-load config (input.Request id request) c is = tt
speaks-load config (input.Spawned who process pid) c is = absurd cc
speaks-load config (input.Refused who process) c is = absurd cc
speaks-load config (input.Ended who process how) c is = absurd cc
speaks-load config (input.Clock reading) c is = tt
speaks-load config input.Turn c is = tt

-- no expression is true after a load
loaded-untrue : (start : Configuration) (id : ℕ) (its : LoadedValue) (c : Chronicle) → NoneHolds (in_force start c) c
    → NoneHolds (in_force start (effect (in_force start c) (input.Load id its) c ++ c)) (effect (in_force start c) (input.Load id its) c ++ c)
unfolding effect
loaded-untrue start id (loaded.Files jobs) c none =
    let given : Chronicle = Given (input.Load id (loaded.Files jobs)) ∷ c in
    let next = with_jobs jobs (in_force start c) given in
    none-entry next _ (Loaded jobs ∷ given) tt (none-loaded (in_force start c) next jobs given (none-entry (in_force start c) _ c tt none))
loaded-untrue start id (loaded.Refused number) c none = none-entry (in_force start c) _ _ tt (none-entry (in_force start c) _ c tt none)
loaded-untrue start id loaded.Unread c none = none-entry (in_force start c) _ _ tt (none-entry (in_force start c) _ c tt none)

-- a step leaves nothing due, and no expression true
unloaded-rests : (start : Configuration) (given : Input) (c : Chronicle) → is_load given ≡ false → AreDistinct (in_force start c).jobs → IsAtRest (in_force start c) c
    → IsAtRest (in_force start (after start c given)) (after start c given)
unloaded-rests start given c is distinct rest =
    subst (λ conf. IsAtRest conf (after start c given)) (unloaded-force start c given is)
    (subst (IsAtRest (in_force start c)) (unloaded-after start c given is) (rest-in (in_force start c) given c is distinct rest))

pub rest-after : (start : Configuration) (given : Input) (c : Chronicle) → HaveJobs (in_force start c).jobs c → AreDistinct (in_force start c).jobs → IsAtRest (in_force start c) c
    → IsAtRest (in_force start (after start c given)) (after start c given)
rest-after start (input.Load id its) c have distinct rest =
    let config = in_force start c in
    let untrue = loaded-untrue start id its c rest.untrue in
    record {
      rested = after_rests start c (input.Load id its);
      untrue = subst (λ d. NoneHolds (in_force start d) d) (loaded-after start c (input.Load id its) refl have rest.rested) untrue;
    }
rest-after start (input.Emit event) c have distinct rest = unloaded-rests start (input.Emit event) c refl distinct rest
rest-after start (input.Request id request) c have distinct rest = unloaded-rests start (input.Request id request) c refl distinct rest
rest-after start (input.Spawned who process pid) c have distinct rest = unloaded-rests start (input.Spawned who process pid) c refl distinct rest
rest-after start (input.Refused who process) c have distinct rest = unloaded-rests start (input.Refused who process) c refl distinct rest
rest-after start (input.Ended who process how) c have distinct rest = unloaded-rests start (input.Ended who process how) c refl distinct rest
rest-after start (input.Clock reading) c have distinct rest = unloaded-rests start (input.Clock reading) c refl distinct rest
rest-after start input.Turn c have distinct rest = unloaded-rests start input.Turn c refl distinct rest
