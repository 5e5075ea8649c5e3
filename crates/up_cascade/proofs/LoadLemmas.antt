-- What a load makes of a setup.
use Rattle.std.proofs.Common.{◌≡◌, ◌<◌, ◌+◌, ◌∙◌, ℕ, Bool, true, false, not, ◌&&◌, nat_lt, lt-ltb, take, List, [], ◌∷◌, ◌++◌, Option, None, Some, is_some, drop, length, get_or, add-one, drop-cons, ap, refl, sym, subst, arith}
use Rattle.std.proofs.lemmas.Grind.{take_at_read}
use Rattle.std.specs.List.{AllByRecursion}
use Rattle.up_conf.specs.declared.job.JobDef.{JobDef}
use Rattle.up_cascade.specs.Naming.{AreOthers, name_of}
use Rattle.up_job.specs.Named.{AreInOrder, IsBelowAll}
use Rattle.up_model.specs.declared.input.Input.{Input}
use Rattle.up_model.specs.declared.input.Input.TheVariants as input
use Rattle.up_model.specs.Chronicle.{Chronicle}
use Rattle.up_model.specs.Configuration.{job_named}
use Rattle.up_model.specs.Loads.{goes_on, going_on, is_load, without_start}
use Rattle.up_model.specs.Values.{Bytes}
use Rattle.up_conf.specs.Order.{in_order}
use Rattle.up_model.specs.Files.{job_names}
use Rattle.up_model.proofs.LoadLaws.{LoadsNothing, NoneNamed, found-none, distinct-both, sorted-order, order-distinct}
use Rattle.up_model.proofs.LoadLaws as model
use Rattle.up_text.specs.Scripts.{is_filled}

-- the jobs that go on of those from one on
pub going_kept : (new jobs : List JobDef) (i : ℕ) (job : JobDef) (c : Chronicle) → i < length jobs → job ≡ get_or jobs i job → goes_on new c job ≡ true
    → going_on new (drop i jobs) c ≡ without_start job ∷ going_on new (drop (i + 1) jobs) c
going_kept new jobs i job c within here goes =
    let one : drop i jobs ≡ get_or jobs i job ∷ drop (i + 1) jobs = rw add-one (drop-cons jobs i job within) in
    ap (λ left. going_on new left c) (one ∙ ap (λ j. j ∷ drop (i + 1) jobs) (sym here)) ∙ rw goes refl

pub going_dropped : (new jobs : List JobDef) (i : ℕ) (job : JobDef) (c : Chronicle) → i < length jobs → job ≡ get_or jobs i job → goes_on new c job ≡ false
    → going_on new (drop i jobs) c ≡ going_on new (drop (i + 1) jobs) c
going_dropped new jobs i job c within here stays =
    let one : drop i jobs ≡ get_or jobs i job ∷ drop (i + 1) jobs = rw add-one (drop-cons jobs i job within) in
    ap (λ left. going_on new left c) (one ∙ ap (λ j. j ∷ drop (i + 1) jobs) (sym here)) ∙ rw stays refl

-- jobs in order stay so without one of them, and if one has another file
below-without : (name : Bytes) (xs : List JobDef) (job : JobDef) (ys : List JobDef) → IsBelowAll name_of name (xs ++ job ∷ ys) → IsBelowAll name_of name (xs ++ ys)
below-without name [] job ys below = below.1
below-without name (x ∷ xs) job ys below = (below.0, below-without name xs job ys below.1)

pub order-without : (xs : List JobDef) (job : JobDef) (ys : List JobDef) → AreInOrder name_of (xs ++ job ∷ ys) → AreInOrder name_of (xs ++ ys)
order-without [] job ys order = order.1
order-without (x ∷ xs) job ys order = (below-without x.name xs job ys order.0, order-without xs job ys order.1)

below-startless : (name : Bytes) (xs : List JobDef) (job : JobDef) (ys : List JobDef) → IsBelowAll name_of name (xs ++ job ∷ ys) → IsBelowAll name_of name ((xs ++ without_start job ∷ []) ++ ys)
below-startless name [] job ys below = below
below-startless name (x ∷ xs) job ys below = (below.0, below-startless name xs job ys below.1)

pub order-startless : (xs : List JobDef) (job : JobDef) (ys : List JobDef) → AreInOrder name_of (xs ++ job ∷ ys) → AreInOrder name_of ((xs ++ without_start job ∷ []) ++ ys)
order-startless [] job ys order = order
order-startless (x ∷ xs) job ys order = (below-startless x.name xs job ys order.0, order-startless xs job ys order.1)

pub order-left : (xs jobs : List JobDef) (i : ℕ) (job : JobDef) → i < length jobs → job ≡ get_or jobs i job → AreInOrder name_of (xs ++ drop i jobs) → AreInOrder name_of (xs ++ job ∷ drop (i + 1) jobs)
order-left xs jobs i job within here order =
    let one : drop i jobs ≡ get_or jobs i job ∷ drop (i + 1) jobs = rw add-one (drop-cons jobs i job within) in
    subst (λ left. AreInOrder name_of (xs ++ left)) (one ∙ ap (λ j. j ∷ drop (i + 1) jobs) (sym here)) order

-- one that is new isn't among the others
pub others-push : (new going : List JobDef) (job : JobDef) → AreOthers new going → job_named job.name new ≡ None → AreOthers new (going ++ without_start job ∷ [])
others-push new [] job others none = (none, tt)
others-push new (x ∷ xs) job others none = (others.0, others-push new xs job others.1 none)

pub is-new : (o : Option JobDef) (filled : Bool) → not (is_some o) && filled ≡ true → o ≡ None
is-new None filled goes = refl
is-new (Some job) filled goes = absurd cc

-- the names of one more
names-append : (xs ys : List JobDef) → job_names (xs ++ ys) ≡ job_names xs ++ job_names ys
names-append [] ys = refl
names-append (x ∷ xs) ys = ap (λ names. x.name ∷ names) (names-append xs ys)

pub names-one-more : (jobs : List JobDef) (i : ℕ) (job : JobDef) → i < length jobs → job ≡ get_or jobs i job → job_names (take (i + 1) jobs) ≡ job_names (take i jobs) ++ job.name ∷ []
names-one-more jobs i job within here =
    let one : take (i + 1) jobs ≡ take i jobs ++ get_or jobs i job ∷ [] = (take_at_read jobs i job within).1 in
    ap job_names (one ∙ ap (λ j. take i jobs ++ j ∷ []) (sym here)) ∙ names-append (take i jobs) (job ∷ [])

pub filled-count : {X : Type 0} (xs : List X) (n : ℕ) → n ≡ length xs → nat_lt 0 n ≡ is_filled xs
filled-count [] n same = rw same refl
filled-count (x ∷ xs) n same = lt-ltb 0 n (omega (arith, same))

-- new jobs in order, and others in order, are in order once they are merged
-- these are the model's words for order
below-to : (name : Bytes) (xs : List JobDef) → IsBelowAll name_of name xs → model.IsBelowAll (λ (job : JobDef). job.name) name xs
below-to name [] below = tt
below-to name (x ∷ xs) below = (below.0, below-to name xs below.1)

to-model : (xs : List JobDef) → AreInOrder name_of xs → model.AreInOrder (λ (job : JobDef). job.name) xs
to-model [] order = tt
to-model (x ∷ xs) order = (below-to x.name xs order.0, to-model xs order.1)

below-from : (name : Bytes) (xs : List JobDef) → model.IsBelowAll (λ (job : JobDef). job.name) name xs → IsBelowAll name_of name xs
below-from name [] below = tt
below-from name (x ∷ xs) below = (below.0, below-from name xs below.1)

from-model : (xs : List JobDef) → model.AreInOrder (λ (job : JobDef). job.name) xs → AreInOrder name_of xs
from-model [] order = tt
from-model (x ∷ xs) order = (below-from x.name xs order.0, from-model xs order.1)

pub merged-order : (new going : List JobDef) → AreInOrder name_of new → AreInOrder name_of going → AreOthers new going → AreInOrder name_of (in_order name_of (new ++ going))
merged-order new going one other others =
    from-model (in_order name_of (new ++ going))
    (sorted-order (new ++ going) (distinct-both new going (order-distinct new (to-model new one)) (order-distinct going (to-model going other)) (apart going others)))
  where
    apart : (xs : List JobDef) → AreOthers new xs → AllByRecursion (λ y. NoneNamed y.name new) xs
    apart [] others = tt
    apart (x ∷ xs) others = (found-none x.name new others.0, apart xs others.1)

-- an input that is no load loads nothing
pub not-load : (given : Input) → is_load given ≡ false → LoadsNothing given
not-load (input.Load id its) is = absurd cc
not-load given is = tt
