-- Where the instances of a job stand in its list, before and after one of them has moved.
use Rattle.std.proofs.Common.{◌≡◌, ℕ, zero, suc, ◌+◌, ◌<◌, ◌≤◌, Bool, true, false, List, [], ◌∷◌, ◌++◌, length, drop, Option, None, Some, slice_get, if◌then◌else◌, refl, sym, ◌∙◌, ap, add-one, arith}
use Rattle.std.specs.Prelude.{option_and_then}
use Rattle.up_model.specs.declared.event_id.EventId.{EventId}
use Rattle.up_job.specs.declared.instance_key.InstanceKey.{InstanceKey}
use Rattle.up_book.specs.Keys.{name_at, instance_at}
use Rattle.up_cascade.specs.Settling.{ListsAfter}
use Rattle.up_cascade.proofs.Resting.{without-one}
use Rattle.up_model.specs.Chronicle.{Chronicle}
use Rattle.up_model.specs.Configuration.{Configuration}
use Rattle.up_model.specs.Instances.{Instance, instances_of}
use Rattle.up_model.specs.Values.{Bytes}

-- an instance in a list, and how many are before it
record Split (at : ℕ) (its : List Instance) (x : Instance) (rest : List Instance) : Type 0 where
  pub front : List Instance
  pub list : its ≡ front ++ x ∷ rest
  pub place : length front ≡ at

split-at : (at : ℕ) (its : List Instance) (x : Instance) (rest : List Instance) → drop at its ≡ x ∷ rest → Split at its x rest
split-at zero its x rest here = record { front = []; list = here; place = refl }
split-at (suc at) [] x rest here = absurd cc
split-at (suc at) (y ∷ its) x rest here =
    let further = split-at at its x rest here in
    record { front = y ∷ further.front; list = ap (λ xs. y ∷ xs) further.list; place = ap suc further.place }

get-middle : (front : List Instance) (x : Instance) (rest : List Instance) → slice_get (front ++ x ∷ rest) (length front) ≡ Some x
get-middle [] x rest = refl
get-middle (y ∷ front) x rest = get-middle front x rest

pub drop-front : (front rest : List Instance) → drop (length front) (front ++ rest) ≡ rest
drop-front [] rest = refl
drop-front (y ∷ front) rest = drop-front front rest

drop-next : (front : List Instance) (x : Instance) (rest : List Instance) → drop (suc (length front)) (front ++ x ∷ rest) ≡ rest
drop-next [] x rest = refl
drop-next (y ∷ front) x rest = drop-next front x rest

-- the instance that a key stands for
pub instance-here : (config : Configuration) (c : Chronicle) (key : InstanceKey) (job : Bytes) (x : Instance) (rest : List Instance) → name_at config key.job ≡ Some job
    → drop key.at (instances_of job c) ≡ x ∷ rest → instance_at config c key ≡ Some x
instance-here config c key job x rest named here =
    let split = split-at key.at (instances_of job c) x rest here in
    ap (option_and_then (λ (name : Bytes). slice_get (instances_of name c) key.at)) named
    ∙ ap (λ its. slice_get its key.at) split.list ∙ ap (slice_get (split.front ++ x ∷ rest)) (sym split.place) ∙ get-middle split.front x rest

-- and those after it, once it has moved
pub rest-here : (job : Bytes) (at : ℕ) (x : Instance) (rest : List Instance) (c d : Chronicle) → drop at (instances_of job c) ≡ x ∷ rest → ListsAfter true x c d → drop (at + 1) (instances_of job d) ≡ rest
rest-here job at x rest c d here lists =
    let split = split-at at (instances_of job c) x rest here in
    rw add-one (ap (drop (suc at)) (lists job ∙ split.list) ∙ ap (λ n. drop (suc n) (split.front ++ x ∷ rest)) (sym split.place) ∙ drop-next split.front x rest)

pub rest-gone : (job : Bytes) (at : ℕ) (x : Instance) (rest : List Instance) (c d : Chronicle) → drop at (instances_of job c) ≡ x ∷ rest → ListsAfter false x c d → drop at (instances_of job d) ≡ rest
rest-gone job at x rest c d here lists =
    let split = split-at at (instances_of job c) x rest here in
    ap (drop at) (lists job ∙ without-one job c split.front rest x split.list) ∙ ap (λ n. drop n (split.front ++ rest)) (sym split.place) ∙ drop-front split.front rest

-- the lists being the same, a key stands for the same instance
pub same-instance : (config : Configuration) (c d : Chronicle) (key : InstanceKey) → ((job : Bytes) → instances_of job d ≡ instances_of job c) → instance_at config d key ≡ instance_at config c key
same-instance config c d key same = by_name (name_at config key.job)
  where
    by_name : (o : Option Bytes) → option_and_then (λ (job : Bytes). slice_get (instances_of job d) key.at) o ≡ option_and_then (λ (job : Bytes). slice_get (instances_of job c) key.at) o
    by_name None = refl
    by_name (Some job) = ap (λ its. slice_get its key.at) (same job)

-- the first of those that are left
pub one-left : (left : List Instance) (n m : ℕ) → length left + n ≡ m → n < m → (x : Instance) × (rest : List Instance) × (left ≡ x ∷ rest)
one-left [] n m sum less = absurd (omega (arith, sum, less))
one-left (x ∷ rest) n m sum less = (x, rest, refl)

pub none-left : (left : List Instance) (n m : ℕ) → length left + n ≡ m → m ≤ n → left ≡ []
none-left [] n m sum past = refl
none-left (x ∷ rest) n m sum past = absurd (omega (arith, sum, past))

-- in a loop over the instances of a job that gives each its turn: those from here on are left, and this chronicle has come of those before
pub record Ahead (stands : Chronicle → Type 0) (run : List Instance → Chronicle → Chronicle) (old : EventId → Option ℕ) (new : Chronicle → EventId → Option ℕ) (job : Bytes) (at turn : ℕ)
    (c : Chronicle) : Type 0 where
  pub d : Chronicle
  pub left : List Instance
  pub stood : stands d
  pub here : drop at (instances_of job d) ≡ left
  pub count : length left + turn ≡ length (instances_of job c)
  pub same : run (instances_of job c) c ≡ run left d
  pub events : (k : EventId) (j : ℕ) → old k ≡ Some j → new d k ≡ Some j

-- the next instance has had its turn, and is still there or has gone
pub ahead-next : (stands then_ : Chronicle → Type 0) (run : List Instance → Chronicle → Chronicle) (old : EventId → Option ℕ) (new later : Chronicle → EventId → Option ℕ) (job : Bytes) (at turn : ℕ) (c : Chronicle)
    → (so_far : Ahead stands run old new job at turn c) → (x : Instance) (rest : List Instance) → so_far.left ≡ x ∷ rest → (stays : Bool) (f : Chronicle) → then_ f → ListsAfter stays x so_far.d f
    → run (x ∷ rest) so_far.d ≡ run rest f → ((k : EventId) (j : ℕ) → new so_far.d k ≡ Some j → later f k ≡ Some j) → (next : ℕ) → next ≡ (if stays then at + 1 else at)
    → Ahead then_ run old later job next (turn + 1) c
ahead-next stands then_ run old new later job at turn c so_far x rest first stays f stood lists same events next at_next = record {
  d = f;
  left = rest;
  stood = stood;
  here = ap (λ n. drop n (instances_of job f)) at_next ∙ by_case stays lists;
  count = omega (arith, so_far.count, ap length first);
  same = so_far.same ∙ ap (λ its. run its so_far.d) first ∙ same;
  events = λ k j known. events k j (so_far.events k j known);
}
  where
    by_case : (b : Bool) → ListsAfter b x so_far.d f → drop (if b then at + 1 else at) (instances_of job f) ≡ rest
    by_case true lists = rest-here job at x rest so_far.d f (so_far.here ∙ first) lists
    by_case false lists = rest-gone job at x rest so_far.d f (so_far.here ∙ first) lists

pub few-next : (stays : Bool) (at turn next : ℕ) → next ≡ (if stays then at + 1 else at) → at ≤ turn → next ≤ turn + 1
few-next true at turn next is few = omega (arith, is, few)
few-next false at turn next is few = omega (arith, is, few)
