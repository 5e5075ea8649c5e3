-- The names of a table: they rise, no two are one, and each finds its job.
use Rattle.std.proofs.Common.{◌≡◌, ℕ, zero, suc, ◌&&◌, Bool, true, false, List, [], ◌∷◌, map, bytes_eq, Some, refl, ◌∙◌, ap}
use Rattle.std.specs.List.{AllByRecursion}
use Rattle.up_conf.specs.declared.job.JobDef.{JobDef}
use Rattle.up_job.specs.Lists.{nth}
use Rattle.up_image.specs.Definable.{are_ascending, are_definable, IsTable}
use Rattle.up_conf.specs.Order.{is_below}
use Rattle.up_job.specs.Named.{AreInOrder, IsBelowAll}
use Rattle.up_job.proofs.NamedLemmas.{below_not_same, below_trans}
use Rattle.up_model.specs.Configuration.{job_named}
use Rattle.up_model.specs.Values.{Bytes}
use Rattle.up_book.specs.Keeps.{AreDistinct}
use Rattle.up_book.specs.Keys.{name_of}
use Rattle.up_book.proofs.One.{apart-back, nth-apart}
use Rattle.up_model.proofs.Places.{bytes_refl}

both-first : (a b : Bool) → (a && b) ≡ true → a ≡ true
both-first true b h = refl
both-first false b h = absurd cc

-- the names of a table rise
pub names-rise : (jobs : List JobDef) → IsTable jobs → are_ascending (map (λ job. job.name) jobs) ≡ true
unfolding are_definable
names-rise jobs table = both-first (are_ascending (map (λ (job : JobDef). job.name) jobs)) _ table.given

below-rising : (name : Bytes) (jobs : List JobDef) → are_ascending (name ∷ map (λ job. job.name) jobs) ≡ true → IsBelowAll name_of name jobs
below-rising name [] up = tt
below-rising name (job ∷ []) up = by_case (is_below name job.name) refl up
  where
    by_case : (b : Bool) → is_below name job.name ≡ b → (b && true) ≡ true → (is_below name job.name ≡ true) × Unit {0}
    by_case true e h = (e, tt)
    by_case false e h = absurd cc
below-rising name (job ∷ next ∷ jobs) up = by_case (below-rising name (next ∷ jobs)) (is_below name job.name) refl (is_below job.name next.name) refl up
  where
    by_case : (are_ascending (name ∷ map (λ (j : JobDef). j.name) (next ∷ jobs)) ≡ true → IsBelowAll name_of name (next ∷ jobs)) → (b : Bool) → is_below name job.name ≡ b → (d : Bool) → is_below job.name next.name ≡ d
        → (b && (d && are_ascending (next.name ∷ map (λ (j : JobDef). j.name) jobs))) ≡ true → (is_below name job.name ≡ true) × IsBelowAll name_of name (next ∷ jobs)
    by_case ih true e true f h =
        let further : is_below name next.name ≡ true = below_trans name job.name next.name e f in
        (e, ih (rw further h))
    by_case ih true e false f h = absurd cc
    by_case ih false e d f h = absurd cc

order-rising : (jobs : List JobDef) → are_ascending (map (λ job. job.name) jobs) ≡ true → AreInOrder name_of jobs
order-rising [] up = tt
order-rising (job ∷ []) up = (tt, tt)
order-rising (job ∷ next ∷ jobs) up =
    (below-rising job.name (next ∷ jobs) up, order-rising (next ∷ jobs) (rest (is_below job.name next.name) up))
  where
    rest : (b : Bool) → (b && are_ascending (next.name ∷ map (λ (j : JobDef). j.name) jobs)) ≡ true → are_ascending (next.name ∷ map (λ (j : JobDef). j.name) jobs) ≡ true
    rest true h = h
    rest false h = absurd cc

pub table-order : (jobs : List JobDef) → IsTable jobs → AreInOrder name_of jobs
table-order jobs table = order-rising jobs (names-rise jobs table)

below-apart : (name : Bytes) (jobs : List JobDef) → IsBelowAll name_of name jobs → AllByRecursion (λ other. bytes_eq other.name name ≡ false) jobs
below-apart name [] below = tt
below-apart name (job ∷ jobs) below = (apart-back name job.name (below_not_same name job.name below.0), below-apart name jobs below.1)

-- names in order differ
pub order-distinct : (jobs : List JobDef) → AreInOrder name_of jobs → AreDistinct jobs
order-distinct [] order = tt
order-distinct (job ∷ jobs) order = (below-apart job.name jobs order.0, order-distinct jobs order.1)

-- the job of a place is found by its name
pub named-there : (n : ℕ) (jobs : List JobDef) (job : JobDef) → nth n jobs ≡ Some job → AreDistinct jobs → job_named job.name jobs ≡ Some job
named-there n [] job there distinct = absurd cc
named-there zero (first ∷ jobs) job there distinct =
    let same : first ≡ job = cc in
    let here : bytes_eq first.name job.name ≡ true = ap (λ (j : JobDef). bytes_eq j.name job.name) same ∙ bytes_refl job.name in
    rw here (ap (λ (j : JobDef). Some j) same)
named-there (suc n) (first ∷ jobs) job there distinct =
    rw (apart-back job.name first.name (nth-apart n jobs job first there distinct.0)) (named-there n jobs job there distinct.1)

-- so is each of the table
found-more : (x : JobDef) (xs ys : List JobDef) → AllByRecursion (λ y. bytes_eq y.name x.name ≡ false) ys → AllByRecursion (λ y. job_named y.name xs ≡ Some y) ys
    → AllByRecursion (λ y. job_named y.name (x ∷ xs) ≡ Some y) ys
found-more x xs [] apart found = tt
found-more x xs (y ∷ ys) apart found = (rw (apart-back y.name x.name apart.0) found.0, found-more x xs ys apart.1 found.1)

pub found-all : (jobs : List JobDef) → AreDistinct jobs → AllByRecursion (λ job. job_named job.name jobs ≡ Some job) jobs
found-all [] distinct = tt
found-all (x ∷ xs) distinct = (rw (bytes_refl x.name) refl, found-more x xs xs distinct.0 (found-all xs distinct.1))
