-- What an instance that lets its holders go puts out, and that instances are of jobs.
use Rattle.std.proofs.Common.{◌≡◌, ℕ, Bool, List, [], ◌∷◌, ◌++◌, length, map, refl, ◌∙◌, ap, arith, append_assoc}
use Rattle.up_model.specs.Chronicle.{Chronicle, Released}
use Rattle.up_model.specs.Configuration.{Configuration}
use Rattle.up_model.specs.Outputs.{outputs_of}
use Rattle.up_model.specs.Readings.{holders}
use Rattle.up_model.specs.Replies.{answering, releasing, status_of}
use Rattle.up_model.specs.Values.{Bytes}
use Rattle.up_model.proofs.Places.{older-other}
use Rattle.up_job.specs.declared.holder.Holder.{Holder}
use Rattle.up_book.specs.Keeps.{HoldsOlder}
use Rattle.up_ledger.specs.Replying.{replies_to}
use Rattle.up_book.specs.Summaries.{holding_at}
use Rattle.up_book.specs.Views.{Places, holding_of}
use Rattle.up_ledger.proofs.Replying.{Extends, replies-out}

-- a release: the replies to the clients that are kept as holders, with the status text
pub released-out : (places : Places) (config : Configuration) (c : Chronicle) (i : ℕ) (failed : Bool) (its : List Holder) (told : Bytes) → HoldsOlder i c
    → map (holding_of places) its ≡ map (holding_at c) (holders i c) → status_of i c ≡ told
    → outputs_of (releasing i failed c ++ c) ≡ outputs_of c ++ replies_to its failed told
unfolding outputs_of
released-out places config c i failed its told older same text =
    ap (outputs_of) (append_assoc (answering (holders i c) failed (status_of i c) c) (Released i failed ∷ []) c)
    ∙ replies-out places config c (holders i c) its failed (status_of i c) (Released i failed ∷ c) older same longer
    ∙ ap (λ t. outputs_of c ++ replies_to its failed t) text
  where
    longer : Extends c (Released i failed ∷ c)
    longer = record {
      longer = omega arith;
      same = λ p before. rw (older-other (length c) p before) refl;
    }
