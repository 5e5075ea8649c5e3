-- What is known of the instance of a key.
use Rattle.std.proofs.Common.{List, ◌≡◌, ℕ, Option, None, Some, is_some, option_map, refl, sym, ◌∙◌, ap, subst}
use Rattle.up_job.specs.Changes.{child_of}
use Rattle.up_stanza.specs.declared.process.Process.{Process}
use Rattle.up_stanza.specs.declared.process.Process.TheVariants as process
use Rattle.up_model.specs.declared.event_id.EventId.{EventId}
use Rattle.up_model.specs.Chronicle.{Chronicle}
use Rattle.up_model.specs.Configuration.{Configuration}
use Rattle.up_job.specs.declared.instances.JobInstances.{JobInstances}
use Rattle.up_job.specs.declared.instance_key.InstanceKey.{InstanceKey}
use Rattle.up_job.specs.declared.instance.Instance.{Instance as Kept}
use Rattle.up_book.specs.Keeps.{Keeps, place_at}
use Rattle.up_ledger.specs.Knowing.{Knows}
use Rattle.up_book.specs.Summaries.{Summary, summary, works_at, work_at, known}
use Rattle.up_book.specs.Views.{Places, view, kept_at}
use Rattle.up_book.proofs.One.{There, there}

some_same : {X : Type 0} {x y : X} → Some x ≡ Some y → x ≡ y
some_same e = cc

knows-so : (places : Places) (book : List JobInstances) (config : Configuration) (c : Chronicle) (key : InstanceKey) (i : ℕ) (k : Kept) → There places book config c key i → kept_at key book ≡ Some k
    → Knows places c i k
knows-so places book config c key i k t found =
    let same : t.kept ≡ k = some_same (sym t.found ∙ found) in
    let its : view places k ≡ summary c t.its = ap (view places) (sym same) ∙ t.same in
    subst (λ p. Knows places c p k) t.place (record {
      goal = ap (λ (s : Summary). s.goal) its;
      state = ap (λ (s : Summary). s.state) its;
      restarted = ap (λ (s : Summary). s.restarted) its;
      pending = ap (λ (s : Summary). s.pending) its;
      env = ap (λ (s : Summary). s.env) its;
      stop_env = ap (λ (s : Summary). s.stop_env) its;
      failure = ap (λ (s : Summary). s.failure) its;
      holders = ap (λ (s : Summary). s.holders) its;
      blocker = ap (λ (s : Summary). s.blocker) its;
      children = ap (λ (s : Summary). s.children) its;
      kill_moment = ap (λ (s : Summary). s.kill_moment) its;
    })

pub knows : (places : Places) (book : List JobInstances) (config : Configuration) (c : Chronicle) (key : InstanceKey) (i : ℕ) (k : Kept) → Keeps places book config c → place_at book c key ≡ Some i
    → kept_at key book ≡ Some k → Knows places c i k
knows places book config c key i k keeps place found = knows-so places book config c key i k (there places book config c key i keeps.jobs place) found

pub is_there : {X : Type 0} (places : Places) (book : List JobInstances) (config : Configuration) (c : Chronicle) (key : InstanceKey) (i : ℕ) → Keeps places book config c → place_at book c key ≡ Some i
    → kept_at key book ≡ None → X
is_there places book config c key i keeps place none =
    let t = there places book config c key i keeps.jobs place in
    let found = t.found in
    absurd cc

pub work-known : (its : Process) (i : ℕ) (c : Chronicle) → child_of its (works_at i c) ≡ work_at i its c
work-known process.Main i c = refl
work-known process.PreStart i c = refl
work-known process.PostStart i c = refl
work-known process.PreStop i c = refl
work-known process.PostStop i c = refl

pub is_some-known : (places : Places) (id : Option EventId) (place : Option ℕ) → option_map places id ≡ known place → is_some id ≡ is_some place
is_some-known places None None same = refl
is_some-known places None (Some place) same = absurd cc
is_some-known places (Some id) None same = absurd cc
is_some-known places (Some id) (Some place) same = refl
