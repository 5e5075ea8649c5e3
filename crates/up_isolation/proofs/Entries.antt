-- Entries about two instances that are alike.
use Rattle.std.proofs.Common.{◌≡◌, ℕ, inl, Bool, List, [], ◌∷◌, Option, Some, length}
use Rattle.std.proofs.Common.{if◌then◌else◌, refl, sym, ◌∙◌, ap, ap₂, arith, eq-eqb}
use Rattle.up_conf.specs.declared.job.JobDef.{JobDef}
use Rattle.up_stanza.specs.declared.process.Process.{Process}
use Rattle.up_stanza.specs.declared.process.Process.TheVariants.{Main}
use Rattle.up_text.specs.Bindings.{set_all}
use Rattle.up_model.specs.declared.event.Event.{Event}
use Rattle.up_model.specs.declared.output.Output.TheVariants as output
use Rattle.up_model.specs.declared.state.Goal.{Goal}
use Rattle.up_model.specs.declared.state.State.{State}
use Rattle.up_model.specs.declared.state.State.TheVariants as state
use Rattle.up_model.specs.declared.who.Who.{Who}
use Rattle.up_model.specs.Chronicle.{Chronicle, Entry, Queued, Aimed, Restarted, Released, Entered, Ordered}
use Rattle.up_model.specs.Chronicle.{Signalled, Entering}
use Rattle.up_model.specs.Configuration.{Configuration}
use Rattle.up_model.specs.Instances.{Instance}
use Rattle.up_model.specs.Outputs.{order_of, order_by, signal_of}
use Rattle.up_model.specs.Readings.{file_of, made_at, has_stop_env, process_env, pid_of}
use Rattle.up_model.specs.Values.{Bytes, Bindings}
use Rattle.up_model.proofs.NameLaws.{called}
use Rattle.up_isolation.specs.Views.{owns}
use Rattle.up_isolation.specs.Parts as parts
use Rattle.up_isolation.specs.Parts.{contents, items}
use Rattle.up_isolation.specs.Parts.{name_at}
use Rattle.up_isolation.proofs.Lives.{Life, life}
use Rattle.up_isolation.proofs.Lives as lives
use Rattle.up_isolation.proofs.Known.{AreOlder, contents-later, older-later}
use Rattle.up_isolation.proofs.Pairs.{Pair, Carries, IsPlain, pair_more, bond-life, shows-item, items-own}
use Rattle.up_isolation.proofs.Pairs.{outputs-own, own-true, made-same, name-same}

-- an event of its life
pub pair_queued : (job : Bytes) (config : Configuration) (c d : Chronicle) (x y : Instance) (to : State)
    (event other : Event) → event ≡ other → Pair job config c d x y
    → Carries job config c d (Queued (Entering x.place to) event ∷ c) (Queued (Entering y.place to) other ∷ d)
    x y
pair_queued job config c d x y to event other same pair =
    pair_more job config (Queued (Entering x.place to) event) (Queued (Entering y.place to) other) c d x y
    pair refl refl tt tt pair.left.0 pair.right.0 tt
    (bond-life job config (Queued (Entering x.place to) event) (Queued (Entering y.place to) other) c d
    x.file x.place y.place pair.twin.bond
    (lives.queued x.place y.place c d to event other pair.twin.bond.alike) refl refl refl refl)
    (record {
      notices = refl;
      items = items-own (owns job x.place c) (owns job y.place d) (parts.Queued (name_at x.place c) to event)
          (parts.Queued (name_at y.place d) to other)
          (own-true job c x pair.left) (own-true job d y pair.right)
          (ap₂ (λ name its. parts.Queued name to its) (name-same job config c d x y pair) same);
      deeds = outputs-own (owns job x.place c) (owns job y.place d) (output.Emitted event ∷ [])
          (output.Emitted other ∷ [])
          (own-true job c x pair.left) (own-true job d y pair.right)
          (ap (λ (its : Event). output.Emitted its ∷ []) same);
    })

-- an order
pub order-same : (its : Process) (file : JobDef) (f g : Option JobDef) (who : Who) (o u : Option Who) (environment other : Bindings)
    → f ≡ Some file → g ≡ Some file → o ≡ Some who → u ≡ Some who → environment ≡ other → order_by f o its environment ≡ order_by g u its other
order-same its file f g who o u environment other here there one two same =
    ap₂ (λ def w. order_by def w its environment) (here ∙ sym there) (one ∙ sym two) ∙ ap (λ env. order_by g u its env) same

env-same : (its : Process) (i j : ℕ) (c d : Chronicle) → life i c ≡ life j d
    → process_env i its c ≡ process_env j its d
env-same its i j c d same =
    ap (λ (l : Life). if has_stop_env its then set_all l.env l.stop_env else l.env) same

pub pair_ordered : (job : Bytes) (config : Configuration) (c d : Chronicle) (x y : Instance) (its : Process)
    → Pair job config c d x y
    → Carries job config c d (Ordered x.place its ∷ c) (Ordered y.place its ∷ d) x y
pair_ordered job config c d x y its pair =
    pair_more job config (Ordered x.place its) (Ordered y.place its) c d x y pair refl refl tt tt pair.left.0
    pair.right.0 tt
    (bond-life job config (Ordered x.place its) (Ordered y.place its) c d x.file x.place y.place pair.twin.bond
    (lives.ordered x.place y.place c d its pair.twin.bond.alike) refl refl refl refl)
    (shows-item job config (Ordered x.place its) (Ordered y.place its) c d x y
    (λ name. parts.Ordered name its) pair refl
    (outputs-own (owns job x.place c) (owns job y.place d)
    (order_of x.place its c) (order_of y.place its d)
    (own-true job c x pair.left) (own-true job d y pair.right)
    (order-same its x.file (file_of x.place c) (file_of y.place d) (called job x.name) (made_at x.place c) (made_at y.place d)
    (process_env x.place its c) (process_env y.place its d) pair.left.2 (pair.right.2 ∙ ap Some (sym pair.twin.file)) pair.left.1
    (sym (made-same job config c d x y pair) ∙ pair.left.1)
    (env-same its x.place y.place c d pair.twin.bond.alike)))
    refl refl)

-- a signal
pub pair_signalled : (job : Bytes) (config : Configuration) (c d : Chronicle) (x y : Instance) (signal : ℕ)
    (by_timer : Bool) → Pair job config c d x y
    → Carries job config c d (Signalled x.place signal by_timer ∷ c) (Signalled y.place signal by_timer ∷ d) x
    y
pair_signalled job config c d x y signal by_timer pair =
    pair_more job config (Signalled x.place signal by_timer) (Signalled y.place signal by_timer) c d x y pair
    refl refl tt tt pair.left.0 pair.right.0 tt
    (bond-life job config (Signalled x.place signal by_timer) (Signalled y.place signal by_timer) c d x.file x.place
    y.place pair.twin.bond
    (lives.signalled x.place y.place c d signal by_timer pair.like.today pair.twin.bond.alike) refl refl refl
    refl)
    (shows-item job config (Signalled x.place signal by_timer) (Signalled y.place signal by_timer) c d x y
    (λ name. parts.Signalled name signal by_timer) pair refl
    (outputs-own (owns job x.place c) (owns job y.place d)
    (signal_of (made_at x.place c) signal (pid_of x.place Main c))
    (signal_of (made_at y.place d) signal (pid_of y.place Main d)) (own-true job c x pair.left)
    (own-true job d y pair.right)
    (ap₂ (λ who pid. signal_of who signal pid) (made-same job config c d x y pair)
    (ap (λ (l : Life). l.pid Main) pair.twin.bond.alike)))
    refl refl)

-- a goal, with holders that stand for the same
pub pair_aimed : (job : Bytes) (config : Configuration) (c d : Chronicle) (x y : Instance) (aim : Goal)
    (environment : Bindings) (its others : List ℕ)
    → contents its c ≡ contents others d → AreOlder (length c) its → AreOlder (length d) others
    → Pair job config c d x y
    → Carries job config c d (Aimed x.place aim environment its ∷ c) (Aimed y.place aim environment others
    ∷ d) x y
pair_aimed job config c d x y aim environment its others same older there pair =
    pair_more job config e f c d x y pair refl refl tt tt pair.left.0 pair.right.0
    (inl (own-true job c x pair.left))
    (record {
      alike = lives.aimed x.place y.place c d aim environment its others pair.twin.bond.alike;
      held = rw (eq-eqb x.place x.place refl, eq-eqb y.place y.place refl) (contents-later its e c older
          ∙ same ∙ sym (contents-later others f d there));
      older =
          rw (eq-eqb x.place x.place refl) (older-later (length c) (length (e ∷ c)) its (omega arith) older);
      older_there = rw (eq-eqb y.place y.place refl)
          (older-later (length d) (length (f ∷ d)) others (omega arith) there);
      sights = pair.twin.bond.sights;
    })
    (record {
      notices = refl;
      items = items-own (owns job x.place c) (owns job y.place d)
          (parts.Aimed (name_at x.place c) aim environment (contents its c))
          (parts.Aimed (name_at y.place d) aim environment (contents others d)) (own-true job c x pair.left)
          (own-true job d y pair.right)
          (ap₂ (λ name held. parts.Aimed name aim environment held) (name-same job config c d x y pair) same);
      deeds = refl;
    })
  where
    e : Entry
    e = Aimed x.place aim environment its

    f : Entry
    f = Aimed y.place aim environment others

-- a restart
pub pair_restarted : (job : Bytes) (config : Configuration) (c d : Chronicle) (x y : Instance)
    (its others : List ℕ)
    → contents its c ≡ contents others d → AreOlder (length c) its → AreOlder (length d) others
    → Pair job config c d x y
    → Carries job config c d (Restarted x.place its ∷ c) (Restarted y.place others ∷ d) x y
pair_restarted job config c d x y its others same older there pair =
    pair_more job config e f c d x y pair refl refl tt tt pair.left.0 pair.right.0
    (inl (own-true job c x pair.left))
    (record {
      alike = lives.restarted x.place y.place c d its others pair.twin.bond.alike;
      held = rw (eq-eqb x.place x.place refl, eq-eqb y.place y.place refl) (contents-later its e c older
          ∙ same ∙ sym (contents-later others f d there));
      older =
          rw (eq-eqb x.place x.place refl) (older-later (length c) (length (e ∷ c)) its (omega arith) older);
      older_there = rw (eq-eqb y.place y.place refl)
          (older-later (length d) (length (f ∷ d)) others (omega arith) there);
      sights = pair.twin.bond.sights;
    })
    (record {
      notices = refl;
      items = items-own (owns job x.place c) (owns job y.place d)
          (parts.Restarted (name_at x.place c) (contents its c))
          (parts.Restarted (name_at y.place d) (contents others d)) (own-true job c x pair.left)
          (own-true job d y pair.right)
          (ap₂ (λ name held. parts.Restarted name held) (name-same job config c d x y pair) same);
      deeds = refl;
    })
  where
    e : Entry
    e = Restarted x.place its

    f : Entry
    f = Restarted y.place others

-- a release
pub pair_released : (job : Bytes) (config : Configuration) (c d : Chronicle) (x y : Instance) (failed : Bool)
    → Pair job config c d x y
    → Carries job config c d (Released x.place failed ∷ c) (Released y.place failed ∷ d) x y
pair_released job config c d x y failed pair =
    pair_more job config (Released x.place failed) (Released y.place failed) c d x y pair refl refl tt tt tt
    tt tt
    (record {
      alike = pair.twin.bond.alike;
      held = rw (eq-eqb x.place x.place refl, eq-eqb y.place y.place refl) refl;
      older = rw (eq-eqb x.place x.place refl) tt;
      older_there = rw (eq-eqb y.place y.place refl) tt;
      sights = pair.twin.bond.sights;
    })
    (shows-item job config (Released x.place failed) (Released y.place failed) c d x y
    (λ name. parts.Released name failed) pair refl refl refl refl)

-- a state, but for waiting
pub pair_entered : (job : Bytes) (config : Configuration) (c d : Chronicle) (x y : Instance) (to : State)
    → IsPlain (Entered 0 to) → Pair job config c d x y
    → Carries job config c d (Entered x.place to ∷ c) (Entered y.place to ∷ d) x y
pair_entered job config c d x y to plain pair =
    pair_more job config (Entered x.place to) (Entered y.place to) c d x y pair refl refl
    (is_plain to plain x.place) (is_plain to plain y.place) pair.left.0 pair.right.0 tt
    (bond-life job config (Entered x.place to) (Entered y.place to) c d x.file x.place y.place pair.twin.bond
    (lives.entered x.place y.place c d to pair.twin.bond.alike) refl refl refl refl)
    (shows-item job config (Entered x.place to) (Entered y.place to) c d x y (λ name. parts.Entered name to)
    pair refl refl refl refl)
  where
    is_plain : (to : State) → IsPlain (Entered 0 to) → (i : ℕ) → IsPlain (Entered i to)
    is_plain state.Waiting is i = is
    is_plain to is i = is
