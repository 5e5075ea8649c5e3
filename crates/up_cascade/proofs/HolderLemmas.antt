-- Who holds an instance, as entries are added.
use Rattle.std.proofs.Common.{◌≡◌, ℕ, Bool, List, [], ◌∷◌, ◌++◌, Option, None, Some, refl, ◌∙◌, ap, append_assoc}
use Rattle.up_model.specs.declared.request.Answer.{Answer}
use Rattle.up_model.specs.Chronicle.{Chronicle, Released, Replied}
use Rattle.up_model.specs.Readings.{holders}
use Rattle.up_model.specs.Replies.{answer_to, answering, answering_one, releasing, request_at, status_of}
use Rattle.up_model.specs.Requests.{RequestValue}
use Rattle.up_model.specs.Values.{Bytes}

-- what passes over replies passes over the answers to clients
past-answering : {X : Type 0} (f : Chronicle → X) → ((place : ℕ) (answer : Answer) (d : Chronicle) → f (Replied place answer ∷ d) ≡ f d)
    → (places : List ℕ) (failed : Bool) (told : Bytes) (c d : Chronicle) → f (answering places failed told c ++ d) ≡ f d
past-answering f past [] failed told c d = refl
past-answering f past (place ∷ places) failed told c d =
    ap f (append_assoc (answering places failed told c) (answering_one place (request_at place c) failed told) d)
    ∙ past-answering f past places failed told c (answering_one place (request_at place c) failed told ++ d) ∙ by_case (request_at place c)
  where
    by_case : (request : Option RequestValue) → f (answering_one place request failed told ++ d) ≡ f d
    by_case None = refl
    by_case (Some request) = past place (answer_to request.command failed told) d

-- and over what an instance does that lets its holders go
pub past-releasing : {X : Type 0} (f : Chronicle → X) → ((place : ℕ) (answer : Answer) (d : Chronicle) → f (Replied place answer ∷ d) ≡ f d)
    → ((instance : ℕ) (failed : Bool) (d : Chronicle) → f (Released instance failed ∷ d) ≡ f d)
    → (instance : ℕ) (failed : Bool) (c : Chronicle) → f (releasing instance failed c ++ c) ≡ f c
past-releasing f past released instance failed c =
    ap f (append_assoc (answering (holders instance c) failed (status_of instance c) c) (Released instance failed ∷ []) c)
    ∙ past-answering f past (holders instance c) failed (status_of instance c) c (Released instance failed ∷ c) ∙ released instance failed c
