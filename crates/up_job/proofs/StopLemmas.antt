-- The places of the leaves that may stop instances.
use Rattle.std.proofs.Common.{◌≡◌, ℕ, zero, suc, ◌+◌, ◌<◌, ◌≤◌, ◌==◌, false, true, ◌||◌, Bool, List, [], ◌∷◌, ◌++◌, length, take, get_or, Some, refl, sym, ◌∙◌, ap, subst, arith, append_assoc}
use Rattle.std.specs.List.{list_any}
use Rattle.std.proofs.lemmas.List.{append-nil, take_more, length-take-le}
use Rattle.up_image.specs.declared.index.Place.{Place}
use Rattle.up_image.specs.Index.{named, places_in}
use Rattle.up_marks.specs.Naming.{naming_in, rank, Rising}
use Rattle.up_marks.proofs.MayMatch.{any-append}
use Rattle.up_marks.proofs.NameLemmas.{any_named_stop, named-append, rising_lower, rising_stops}
use Rattle.up_job.specs.declared.instance.Instance.{Instance}
use Rattle.up_job.specs.declared.instances.JobInstances.{JobInstances}
use Rattle.up_job.specs.JobLists.{stops_of, stop_places}
use Rattle.up_job.specs.Lists.{nth}
use Rattle.up_model.specs.Values.{Bytes}

-- one instance more
stops_of-append : (n : ℕ) (xs ys : List Instance) → stops_of n (xs ++ ys) ≡ stops_of n xs ++ stops_of n ys
stops_of-append n [] ys = refl
stops_of-append n (x ∷ xs) ys =
    ap (λ ps. places_in n false x.file.stop_on ++ ps) (stops_of-append n xs ys) ∙ sym (append_assoc (places_in n false x.file.stop_on) (stops_of n xs) (stops_of n ys))

pub stops_of-more : (n : ℕ) (before all next : List Place) (xs : List Instance) (i : ℕ) (x : Instance) → i < length xs → x ≡ get_or xs i x → all ≡ before ++ stops_of n (take i xs)
    → next ≡ all ++ places_in n false x.file.stop_on → next ≡ before ++ stops_of n (take (i + 1) xs)
stops_of-more n before all next xs i x below is so_far one =
    one ∙ ap (λ ps. ps ++ places_in n false x.file.stop_on) so_far ∙ append_assoc before (stops_of n (take i xs)) (places_in n false x.file.stop_on)
    ∙ ap (λ ps. before ++ ps) (ap (λ ps. stops_of n (take i xs) ++ ps) (sym (append-nil (places_in n false x.file.stop_on))) ∙ sym (stops_of-append n (take i xs) (x ∷ [])))
    ∙ ap (λ (y : Instance). before ++ stops_of n (take i xs ++ y ∷ [])) is ∙ ap (λ ys. before ++ stops_of n ys) (sym (take_more xs i x below))

-- one job more
stop_places-append : (n : ℕ) (xs ys : List JobInstances) → stop_places n (xs ++ ys) ≡ stop_places n xs ++ stop_places (n + length xs) ys
stop_places-append n [] ys = let e : n ≡ n + 0 = omega arith in ap (λ m. stop_places m ys) e
stop_places-append n (x ∷ xs) ys =
    let e : suc n + length xs ≡ n + length (x ∷ xs) = omega arith in
    ap (λ ps. stops_of n x.instances ++ ps) (stop_places-append (suc n) xs ys) ∙ sym (append_assoc (stops_of n x.instances) (stop_places (suc n) xs) (stop_places (suc n + length xs) ys))
    ∙ ap (λ m. (stops_of n x.instances ++ stop_places (suc n) xs) ++ stop_places m ys) e

pub stop_places-more : (all next : List Place) (xs : List JobInstances) (i : ℕ) (x : JobInstances) → i < length xs → x ≡ get_or xs i x → all ≡ stop_places 0 (take i xs)
    → next ≡ all ++ stops_of i x.instances → next ≡ stop_places 0 (take (i + 1) xs)
stop_places-more all next xs i x below is so_far one =
    let long : i ≡ 0 + length (take i xs) = omega (arith, length-take-le i xs (omega arith)) in
    one ∙ ap (λ ps. ps ++ stops_of i x.instances) so_far ∙ ap (λ m. stop_places 0 (take i xs) ++ stops_of m x.instances) long
    ∙ ap (λ ps. stop_places 0 (take i xs) ++ ps) (sym (append-nil (stops_of (0 + length (take i xs)) x.instances))) ∙ sym (stop_places-append 0 (take i xs) (x ∷ []))
    ∙ ap (λ (y : JobInstances). stop_places 0 (take i xs ++ y ∷ [])) is ∙ ap (λ ys. stop_places 0 ys) (sym (take_more xs i x below))

-- they come in the order of expressions
rising-stops_of : (low n : ℕ) (xs : List Instance) (rest : List Place) → low ≤ rank n false → Rising (rank n false) rest → Rising low (stops_of n xs ++ rest)
rising-stops_of low n [] rest le up = rising_lower low (rank n false) rest le up
rising-stops_of low n (x ∷ xs) rest le up =
    subst (λ ps. Rising low ps) (sym (append_assoc (places_in n false x.file.stop_on) (stops_of n xs) rest))
    (rising_stops low n x.file.stop_on (stops_of n xs ++ rest) le (rising-stops_of (rank n false) n xs rest (omega arith) up))

rising-from : (low n : ℕ) (jobs : List JobInstances) → low ≤ rank n false → Rising low (stop_places n jobs)
rising-from low n [] le = tt
rising-from low n (job ∷ jobs) le = rising-stops_of low n job.instances (stop_places (suc n) jobs) le (rising-from (rank n false) (suc n) jobs (omega arith))

pub rising-stop_places : (jobs : List JobInstances) → Rising 0 (stop_places 0 jobs)
rising-stop_places jobs = rising-from 0 0 jobs (omega arith)

-- where the file of an instance names an event, a place of its job does
any-or-left : (a b : Bool) → a ≡ true → (a || b) ≡ true
any-or-left a b is = rw is refl

any-or-right : (a b : Bool) → b ≡ true → (a || b) ≡ true
any-or-right true b is = refl
any-or-right false b is = is

abbrev is_of : ℕ → Place → Bool
is_of n place = place.job == n

any-parts : (n : ℕ) (name : Bytes) (xs ys : List Place) → list_any (is_of n) (named name (xs ++ ys)) ≡ (list_any (is_of n) (named name xs) || list_any (is_of n) (named name ys))
any-parts n name xs ys = ap (list_any (is_of n)) (named-append name xs ys) ∙ any-append (is_of n) (named name xs) (named name ys)

any-stop_of : (n : ℕ) (name : Bytes) (xs : List Instance) (at : ℕ) (x : Instance) → nth at xs ≡ Some x → (naming_in x.file.stop_on name ≡ [] → ⊥) → list_any (is_of n) (named name (stops_of n xs)) ≡ true
any-stop_of n name [] at x there some = absurd cc
any-stop_of n name (y ∷ ys) zero x there some =
    let same : x ≡ y = cc in
    any-parts n name (places_in n false y.file.stop_on) (stops_of n ys)
    ∙ any-or-left (list_any (is_of n) (named name (places_in n false y.file.stop_on))) (list_any (is_of n) (named name (stops_of n ys)))
    (any_named_stop n y.file.stop_on name (subst (λ (z : Instance). naming_in z.file.stop_on name ≡ [] → ⊥) same some))
any-stop_of n name (y ∷ ys) (suc at) x there some =
    any-parts n name (places_in n false y.file.stop_on) (stops_of n ys)
    ∙ any-or-right (list_any (is_of n) (named name (places_in n false y.file.stop_on))) (list_any (is_of n) (named name (stops_of n ys))) (any-stop_of n name ys at x there some)

any-from : (low k : ℕ) (name : Bytes) (jobs : List JobInstances) (job : JobInstances) (at : ℕ) (x : Instance) → nth k jobs ≡ Some job → nth at job.instances ≡ Some x → (naming_in x.file.stop_on name ≡ [] → ⊥)
    → list_any (is_of (low + k)) (named name (stop_places low jobs)) ≡ true
any-from low k name [] job at x there its some = absurd cc
any-from low zero name (other ∷ jobs) job at x there its some =
    let same : job ≡ other = cc in
    let e : low ≡ low + 0 = omega arith in
    any-parts (low + 0) name (stops_of low other.instances) (stop_places (suc low) jobs)
    ∙ any-or-left (list_any (is_of (low + 0)) (named name (stops_of low other.instances))) (list_any (is_of (low + 0)) (named name (stop_places (suc low) jobs)))
    (subst (λ m. list_any (is_of m) (named name (stops_of low other.instances)) ≡ true) e
    (any-stop_of low name other.instances at x (subst (λ (j : JobInstances). nth at j.instances ≡ Some x) same its) some))
any-from low (suc k) name (other ∷ jobs) job at x there its some =
    let e : suc low + k ≡ low + suc k = omega arith in
    any-parts (low + suc k) name (stops_of low other.instances) (stop_places (suc low) jobs)
    ∙ any-or-right (list_any (is_of (low + suc k)) (named name (stops_of low other.instances))) (list_any (is_of (low + suc k)) (named name (stop_places (suc low) jobs)))
    (subst (λ m. list_any (is_of m) (named name (stop_places (suc low) jobs)) ≡ true) e (any-from (suc low) k name jobs job at x there its some))

pub any-stop_place : (n : ℕ) (name : Bytes) (jobs : List JobInstances) (job : JobInstances) (at : ℕ) (x : Instance) → nth n jobs ≡ Some job → nth at job.instances ≡ Some x → (naming_in x.file.stop_on name ≡ [] → ⊥)
    → list_any (λ (place : Place). place.job == n) (named name (stop_places 0 jobs)) ≡ true
any-stop_place n name jobs job at x there its some =
    let e : 0 + n ≡ n = omega arith in
    subst (λ m. list_any (is_of m) (named name (stop_places 0 jobs)) ≡ true) e (any-from 0 n name jobs job at x there its some)
