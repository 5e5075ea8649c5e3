-- What the request of a step acted on.
use Rattle.std.specs.Prelude.{◌≡◌, ◌<◌, ◌==◌, ◌&&◌, Bool, if◌then◌else◌, ℕ, zero, suc, Option, None, Some, length}
use Rattle.up_model.specs.Chronicle.{Chronicle}
use Rattle.up_model.specs.Instances.{all_instances}
use Rattle.up_model.specs.Replies.{status_of, request_instance}
use Rattle.up_model.specs.Values.{Bytes}
use Rattle.up_model.proofs.Places.{count}
use Rattle.up_job.specs.declared.instance_key.InstanceKey.{InstanceKey}
use Rattle.up_ledger.specs.declared.step.ActedOn.{ActedOn}
use Rattle.up_ledger.specs.declared.step.ActedOn.TheVariants.{Exists, Gone}
use Rattle.up_book.specs.Keys.{instance_place}
use Rattle.up_model.specs.Configuration.{Configuration}

abbrev pub IsGone : ℕ → Chronicle → Type 0
IsGone i c = (i < length c) × (count i (all_instances c) ≡ 0)

abbrev pub OnMeans : Configuration → Chronicle → Option ActedOn → Type 0
OnMeans config c None = request_instance c ≡ None
OnMeans config c (Some (Exists key)) = (i : ℕ) × (request_instance c ≡ Some i) × (instance_place config c key ≡ Some i)
OnMeans config c (Some (Gone text)) = (i : ℕ) × (request_instance c ≡ Some i) × (status_of i c ≡ text) × IsGone i c

-- where a key stands after one more came to a place of its job, and after the one at a place left
abbrev pub after_insert : ℕ → ℕ → ℕ
after_insert zero n = suc n
after_insert (suc p) zero = zero
after_insert (suc p) (suc n) = suc (after_insert p n)

abbrev pub after_remove : ℕ → ℕ → ℕ
after_remove zero zero = zero
after_remove zero (suc n) = n
after_remove (suc p) zero = zero
after_remove (suc p) (suc n) = suc (after_remove p n)

abbrev pub moved_on : (InstanceKey → InstanceKey) → Option ActedOn → Option ActedOn
moved_on move None = None
moved_on move (Some (Exists key)) = Some (Exists (move key))
moved_on move (Some (Gone text)) = Some (Gone text)

-- where a key stands after one more came to a place of a job, and after the one at a place left it
abbrev pub after_made : (job position : ℕ) → InstanceKey → InstanceKey
after_made job position key =
    if key.job == job then record { job = key.job; at = after_insert position key.at } else key

abbrev pub after_left : (job position : ℕ) → InstanceKey → InstanceKey
after_left job position key =
    if key.job == job then record { job = key.job; at = after_remove position key.at } else key

abbrev pub same_key : InstanceKey → InstanceKey → Bool
same_key key other = (key.job == other.job) && (key.at == other.at)

-- what a request acted on, once the instance of a key has left, of which this is told
abbrev pub on_left : InstanceKey → Bytes → Option ActedOn → Option ActedOn
on_left key told None = None
on_left key told (Some (Exists on)) = Some (if same_key on key then Gone told else Exists (after_left key.job key.at on))
on_left key told (Some (Gone text)) = Some (Gone text)
