-- The moments of respawns.
use Rattle.std.proofs.Common.{◌≡◌, ℕ, take, Some, refl, sym, ◌∙◌, ap, subst}
use Rattle.up_conf.specs.declared.job.JobDef.{JobDef}
use Rattle.up_job.specs.Moments.{moments_of, room, Falls}
use Rattle.up_job.specs.declared.change.Change.TheVariants as change
use Rattle.up_job.specs.declared.instance.Instance.{Instance as Kept}
use Rattle.up_job.specs.declared.instance_key.InstanceKey.{InstanceKey}
use Rattle.up_job.proofs.MomentLemmas.{noted-take}
use Rattle.up_model.specs.Chronicle.{Chronicle, Respawned}
use Rattle.up_model.specs.Clock.{now}
use Rattle.up_model.specs.Configuration.{Configuration}
use Rattle.up_model.specs.Queue.{queue}
use Rattle.up_model.specs.Readings.{holders}
use Rattle.up_ledger.specs.declared.past.Past.{Past}
use Rattle.up_ledger.specs.Eventing.{place_of}
use Rattle.up_book.specs.Keeps.{HoldsOlder}
use Rattle.up_ledger.specs.Standing.{Forgets, instance_place}
use Rattle.up_book.specs.Summaries.{Summary}
use Rattle.up_book.specs.Views.{Places, kept_at}
use Rattle.up_ledger.proofs.Entering.{Is}
use Rattle.up_ledger.proofs.Frames.{holding-later}
use Rattle.up_book.proofs.One.{there}

some_same : {X : Type 0} {a b : X} → Some a ≡ Some b → a ≡ b
some_same same = cc

-- the moments that are kept are the last ones
pub moments-known : (book : Past) (config : Configuration) (c : Chronicle) (key : InstanceKey) (i : ℕ) (k : Kept) → Forgets book config c → instance_place book c key ≡ Some i
    → kept_at key book.instances ≡ Some k → (k.moments.items ≡ take (room k.file.limit) (moments_of i c)) × Falls book.reading (moments_of i c)
moments-known book config c key i k f found kept =
    let t = there (place_of book.events (queue c)) book.instances config c key i f.lives.jobs found in
    let mine : t.kept ≡ k = some_same (sym t.found ∙ kept) in
    let file : t.its.file ≡ k.file = sym (ap (λ (s : Summary). s.file) t.same) ∙ ap (λ (x : Kept). x.file) mine in
    let all : t.kept.moments.items ≡ take (room t.its.file.limit) (moments_of t.its.place c) = ap (λ (s : Summary). s.moments.items) t.same in (
      ap (λ (x : Kept). x.moments.items) (sym mine) ∙ all ∙ ap (λ (j : JobDef). take (room j.limit) (moments_of t.its.place c)) file
          ∙ ap (λ p. take (room k.file.limit) (moments_of p c)) t.place,
      subst (λ n. Falls n (moments_of i c)) (sym f.reading) (f.regular.falling i),
    )

-- a respawn
pub is-respawned : (places : Places) (config : Configuration) (c : Chronicle) (i moment : ℕ) → ((p : ℕ) → HoldsOlder p c) → Is places config c i (Respawned i moment) (change.Respawns moment)
is-respawned places config c i moment older = record {
  apart = λ p apart. apart;
  instances = λ job. refl;
  seen = λ x. refl;
  here = λ x at. rw (at, holding-later (Respawned i moment) c (holders x.place c) (older x.place), noted-take (room x.file.limit) moment (moments_of x.place c)) refl;
}

pub is-respawned-at : (places : Places) (config : Configuration) (c : Chronicle) (i moment : ℕ) → moment ≡ now c → ((p : ℕ) → HoldsOlder p c) → Is places config c i (Respawned i (now c)) (change.Respawns moment)
is-respawned-at places config c i moment so older = rw so (is-respawned places config c i (now c) older)
