-- The signal of an instance, by what is kept of it.
use Rattle.std.proofs.Common.{◌≡◌, ℕ, [], ◌∷◌, None, Some, refl, ap}
use Rattle.up_conf.specs.declared.job.JobDef.{JobDef}
use Rattle.up_model.specs.declared.output.Output.TheVariants as output
use Rattle.up_model.specs.Values.{Bytes}
use Rattle.up_job.specs.declared.instance.Instance.{Instance as Kept}
use Rattle.up_model.specs.declared.who.Who.{Who}
use Rattle.up_book.specs.Views.{Places, view}
use Rattle.up_book.specs.Sending.{signal_by}

pub signal-by : (its : JobDef) (job : Bytes) (kept : Kept) (places : Places) (signal pid : ℕ) (who : Who) → its.name ≡ job → who ≡ record { job = job; instance = kept.name } → kept.children.main.pid ≡ Some pid
    → output.Signal who pid signal ∷ [] ≡ signal_by its (view places kept) signal
signal-by its job kept places signal pid who named same found = rw (named, found) (ap (λ w. output.Signal w pid signal ∷ []) same)

pub signal-none : (its : JobDef) (kept : Kept) (places : Places) (signal : ℕ) → kept.children.main.pid ≡ None → [] ≡ signal_by its (view places kept) signal
signal-none its kept places signal none = rw none refl
