-- A leaf that an event isn't ruled out by wants nothing, or the value of one of its variables.
use Rattle.std.proofs.Common.{◌≡◌, ◌≤◌, ◌+◌, ◌==◌, ℕ, zero, suc, Bool, true, false, ◌&&◌, ◌||◌, nat_lt, List, [], ◌∷◌, map, take, bytes_eq, slice_get, cond, Option, None, Some, IfSome, if◌then◌else◌, refl, sym, ◌∙◌, ap, arith, add-one, ltb-true, ltb-false}
use Rattle.std.specs.List.{list_any}
use Rattle.std.proofs.lemmas.Bool.{and_parts, not-true}
use Rattle.std.proofs.lemmas.List.Sorted.{list_any-IsPermutation}
use Rattle.up_conf.specs.declared.job.JobDef.{JobDef}
use Rattle.up_expr.specs.declared.expr.Leaf.{Leaf}
use Rattle.up_expr.specs.declared.expr.Test.{Test}
use Rattle.up_expr.specs.declared.expr.Test.TheVariants as test
use Rattle.up_expr.specs.Matching.{next_place, nth_value}
use Rattle.up_image.specs.declared.index.Place.{Place}
use Rattle.up_image.specs.Index.{named, places_of}
use Rattle.up_model.specs.declared.event.Event.{Event}
use Rattle.up_text.specs.Bindings.{value_of}
use Rattle.up_value.specs.Values.{Bytes, Bindings}
use Rattle.up_marks.specs.Finding.{Finds, IsLeastFrom, IsNextJob, has_job, has_wanted, has_wanting, lesser, literal_in, literal_of, or_wanted, wanted_by, wanted_in, wanting, wants}
use Rattle.up_marks.specs.Ruling.{admits, admits_by, fails, is_another, is_literal, leaf_at, one_fails, rules_out}
use Rattle.up_marks.specs.declared.wanted.Wanted.{Wanted}
use Rattle.up_marks.proofs.Ordered.{least-same}

-- whether one of these variables has a value
abbrev has_value : Bytes → Bindings → Bool
has_value value vars = list_any (λ pair. bytes_eq value pair.1) vars

or-true : (b : Bool) → (b || true) ≡ true
or-true true = refl
or-true false = refl

nth-there : (value found : Bytes) (k : ℕ) (vars : Bindings) → bytes_eq value found ≡ true → nth_value k vars ≡ Some found → has_value value vars ≡ true
nth-there value found k [] same there = absurd (cc)
nth-there value found zero (pair ∷ vars) same there =
    let its : pair.1 ≡ found = cc in
    ap (λ (v : Bytes). bytes_eq value v || has_value value vars) its ∙ ap (λ (b : Bool). b || has_value value vars) same
nth-there value found (suc k) (pair ∷ vars) same there =
    ap (λ (b : Bool). bytes_eq value pair.1 || b) (nth-there value found k vars same there) ∙ or-true (bytes_eq value pair.1)

keyed-there : (key value found : Bytes) (vars : Bindings) → bytes_eq value found ≡ true → value_of key vars ≡ Some found → has_value value vars ≡ true
keyed-there key value found [] same there = absurd (cc)
keyed-there key value found (pair ∷ vars) same there = by_key (bytes_eq key pair.0) there (keyed-there key value found vars same)
  where
    by_key : (b : Bool) → (if b then Some pair.1 else value_of key vars) ≡ Some found → (value_of key vars ≡ Some found → has_value value vars ≡ true) → (bytes_eq value pair.1 || has_value value vars) ≡ true
    by_key true there ih =
        let its : pair.1 ≡ found = cc in
        ap (λ (v : Bytes). bytes_eq value v || has_value value vars) its ∙ ap (λ (b : Bool). b || has_value value vars) same
    by_key false there ih = ap (λ (b : Bool). bytes_eq value pair.1 || b) (ih there) ∙ or-true (bytes_eq value pair.1)

-- a literal value that a variable may have is its value
literal-same : (value : Bytes) (found : Option Bytes) (vars : Bindings) → is_literal value ≡ true → is_another value found ≡ false
    → ((its : Bytes) → bytes_eq value its ≡ true → found ≡ Some its → has_value value vars ≡ true) → has_value value vars ≡ true
literal-same value None vars literal isnt there = absurd (cc)
literal-same value (Some its) vars literal isnt there = by_same (bytes_eq value its) refl
  where
    by_same : (b : Bool) → bytes_eq value its ≡ b → has_value value vars ≡ true
    by_same true same = there its same refl
    by_same false apart =
        let other : is_another value (Some its) ≡ true = rw (apart, literal) refl in
        let clash : true ≡ false = sym other ∙ isnt in
        absurd (cc)

-- whether nothing is wanted, or the value of one of these variables
abbrev is_met : Bytes → Bindings → Bool
is_met wanted vars = has_value wanted vars || bytes_eq wanted []

met-literal : (value : Bytes) (found : Option Bytes) (vars : Bindings) (rest : Bytes) → is_another value found ≡ false
    → ((its : Bytes) → bytes_eq value its ≡ true → found ≡ Some its → has_value value vars ≡ true) → is_met rest vars ≡ true → is_met (or_wanted (literal_of value) rest) vars ≡ true
met-literal value found vars rest isnt there met = by_literal (is_literal value) refl
  where
    by_literal : (b : Bool) → is_literal value ≡ b → is_met (or_wanted (if b then Some value else None) rest) vars ≡ true
    by_literal false is = met
    by_literal true is = ap (λ (b : Bool). b || bytes_eq value []) (literal-same value found vars is isnt there)

met-tests : (vars : Bindings) (k : ℕ) (tests : List Test) → one_fails vars k tests ≡ false → is_met (wanted_in tests) vars ≡ true
met-tests vars k [] none = or-true (has_value [] vars)
met-tests vars k (its ∷ tests) none = by_fail (fails vars k its) refl none (met-tests vars (next_place k its) tests)
  where
    by_test : (t : Test) → fails vars k t ≡ false → is_met (wanted_in tests) vars ≡ true → is_met (or_wanted (literal_in t) (wanted_in tests)) vars ≡ true
    by_test (test.Place value) fits met = met-literal value (nth_value k vars) vars (wanted_in tests) fits (λ found same there. nth-there value found k vars same there) met
    by_test (test.Same key value) fits met = met-literal value (value_of key vars) vars (wanted_in tests) fits (λ found same there. keyed-there key value found vars same there) met
    by_test (test.Differs key value) fits met = met

    by_fail : (b : Bool) → fails vars k its ≡ b → (if b then true else one_fails vars (next_place k its) tests) ≡ false
        → (one_fails vars (next_place k its) tests ≡ false → is_met (wanted_in tests) vars ≡ true) → is_met (or_wanted (literal_in its) (wanted_in tests)) vars ≡ true
    by_fail true is none ih = absurd (cc)
    by_fail false is none ih = by_test its is (ih none)

met-leaf : (event : Event) (leaf : Option Leaf) → admits_by event leaf ≡ true → is_met (wanted_by leaf) event.vars ≡ true
met-leaf event None fits = absurd (cc)
met-leaf event (Some leaf) fits = by_name (bytes_eq event.name leaf.event) (not-true (rules_out leaf event.name event.vars) fits)
  where
    by_name : (b : Bool) → (if b then one_fails event.vars 0 leaf.values else true) ≡ false → is_met (wanted_in leaf.values) event.vars ≡ true
    by_name true none = met-tests event.vars 0 leaf.values none
    by_name false none = absurd (cc)

-- so all leaves that may match an event are among those that want nothing or the value of a variable
any-same : {X : Type 0} (p q : X → Bool) → ((x : X) → p x ≡ q x) → (xs : List X) → list_any p xs ≡ list_any q xs
any-same p q same [] = refl
any-same p q same (x ∷ xs) = ap (λ (b : Bool). b || list_any p xs) (same x) ∙ ap (λ (b : Bool). q x || b) (any-same p q same xs)

any-none : {X : Type 0} (xs : List X) → list_any (λ (x : X). false) xs ≡ false
any-none [] = refl
any-none (x ∷ xs) = any-none xs

or-four : (a b c d : Bool) → ((a || b) || (c || d)) ≡ ((a || c) || (b || d))
or-four true b c d = refl
or-four false true true d = refl
or-four false true false d = refl
or-four false false c d = refl

any-or : {X : Type 0} (p q : X → Bool) (xs : List X) → list_any (λ x. p x || q x) xs ≡ (list_any p xs || list_any q xs)
any-or p q [] = refl
any-or p q (x ∷ xs) = ap (λ (b : Bool). (p x || q x) || b) (any-or p q xs) ∙ or-four (p x) (q x) (list_any p xs) (list_any q xs)

-- a leaf of its own among those
one-leaf : (jobs : List JobDef) (event : Event) (job : ℕ) (place : Place) (u s : Bool) → (s ≡ true → is_met (wanted_by (leaf_at jobs place)) event.vars ≡ true)
    → (list_any (λ (pair : Bytes × Bytes). (u && bytes_eq (wanted_by (leaf_at jobs place)) pair.1) && s) event.vars || ((u && bytes_eq (wanted_by (leaf_at jobs place)) []) && s)) ≡ (u && s)
one-leaf jobs event job place false s met = ap (λ (b : Bool). b || false) (any-none event.vars)
one-leaf jobs event job place true false met =
    let wanted = wanted_by (leaf_at jobs place) in
    let none : (b : Bool) → (b && false) ≡ false = and-false in
    ap (λ (b : Bool). b || (bytes_eq wanted [] && false)) (any-same (λ (pair : Bytes × Bytes). bytes_eq wanted pair.1 && false) (λ (pair : Bytes × Bytes). false) (λ pair. none (bytes_eq wanted pair.1)) event.vars ∙ any-none event.vars)
    ∙ none (bytes_eq wanted [])
  where
    and-false : (b : Bool) → (b && false) ≡ false
    and-false true = refl
    and-false false = refl
one-leaf jobs event job place true true met =
    let wanted = wanted_by (leaf_at jobs place) in
    let same : (b : Bool) → (b && true) ≡ b = and-true in
    ap (λ (b : Bool). b || (bytes_eq wanted [] && true)) (any-same (λ (pair : Bytes × Bytes). bytes_eq wanted pair.1 && true) (λ (pair : Bytes × Bytes). bytes_eq wanted pair.1) (λ pair. same (bytes_eq wanted pair.1)) event.vars)
    ∙ ap (λ (b : Bool). has_value wanted event.vars || b) (same (bytes_eq wanted [])) ∙ met refl
  where
    and-true : (b : Bool) → (b && true) ≡ b
    and-true true = refl
    and-true false = refl

each-leaf : (jobs : List JobDef) (event : Event) (job : ℕ) (places : List Place)
    → has_wanted (admits jobs event) event.name event.vars (map (wanting jobs) places) job ≡ has_job (admits jobs event) job (named event.name places)
each-leaf jobs event job [] = ap (λ (b : Bool). b || false) (any-none event.vars)
each-leaf jobs event job (place ∷ places) =
    let test = admits jobs event in
    let leaf = wanting jobs place in
    let u = bytes_eq place.event event.name in
    let s = (place.job == job) && test place in
    let own : Bytes → Bool = λ value. wants event.name value leaf && s in
    let rest : Bytes → Bool = λ value. has_wanting test event.name value (map (wanting jobs) places) job in
    let fits : s ≡ true → is_met leaf.value event.vars ≡ true = λ is. met-leaf event (leaf_at jobs place) (and_parts (place.job == job) (test place) is).1 in
    ap (λ (b : Bool). b || (own [] || rest [])) (any-or (λ (pair : Bytes × Bytes). own pair.1) (λ (pair : Bytes × Bytes). rest pair.1) event.vars)
    ∙ or-four (list_any (λ (pair : Bytes × Bytes). own pair.1) event.vars) (list_any (λ (pair : Bytes × Bytes). rest pair.1) event.vars) (own []) (rest [])
    ∙ ap (λ (b : Bool). b || (list_any (λ (pair : Bytes × Bytes). rest pair.1) event.vars || rest [])) (one-leaf jobs event job place u s fits)
    ∙ ap (λ (b : Bool). (u && s) || b) (each-leaf jobs event job places)
    ∙ by_name u
  where
    by_name : (b : Bool) → ((b && ((place.job == job) && admits jobs event place)) || has_job (admits jobs event) job (named event.name places))
        ≡ has_job (admits jobs event) job (cond b (place ∷ named event.name places) (named event.name places))
    by_name true = refl
    by_name false = refl

wanted-all : (jobs : List JobDef) (event : Event) (leaves : List Wanted) → Finds leaves jobs → (job : ℕ)
    → has_wanted (admits jobs event) event.name event.vars leaves job ≡ has_job (admits jobs event) job (named event.name (places_of 0 jobs))
wanted-all jobs event leaves finds job =
    let test = admits jobs event in
    let all = map (wanting jobs) (places_of 0 jobs) in
    let moved : (value : Bytes) → has_wanting test event.name value leaves job ≡ has_wanting test event.name value all job =
    λ value. sym (list_any-IsPermutation (λ (leaf : Wanted). wants event.name value leaf && ((leaf.place.job == job) && test leaf.place)) all leaves finds) in
    ap (λ (b : Bool). b || has_wanting test event.name [] leaves job)
    (any-same (λ (pair : Bytes × Bytes). has_wanting test event.name pair.1 leaves job) (λ (pair : Bytes × Bytes). has_wanting test event.name pair.1 all job) (λ pair. moved pair.1) event.vars)
    ∙ ap (λ (b : Bool). list_any (λ (pair : Bytes × Bytes). has_wanting test event.name pair.1 all job) event.vars || b) (moved [])
    ∙ each-leaf jobs event job (places_of 0 jobs)

pub found-all : (jobs : List JobDef) (event : Event) (leaves : List Wanted) (from : ℕ) (next : Option ℕ) → Finds leaves jobs
    → IsLeastFrom (has_wanted (admits jobs event) event.name event.vars leaves) from next → IsNextJob (admits jobs event) from (named event.name (places_of 0 jobs)) next
found-all jobs event leaves from next finds least =
    least-same (has_wanted (admits jobs event) event.name event.vars leaves) (λ job. has_job (admits jobs event) job (named event.name (places_of 0 jobs))) from (λ job after. wanted-all jobs event leaves finds job) next least

pub least-later : (test : ℕ → Bool) (from : ℕ) (next : Option ℕ) → IsLeastFrom test from next → IfSome next (λ n. from ≤ n)
least-later test from None is = tt
least-later test from (Some n) is = is.0

-- the lesser of two is the least for which one of two tests holds
or-some : (a b : Bool) → b ≡ true → (a || b) ≡ true
or-some true b some = refl
or-some false b some = some

or-none : (a b : Bool) → a ≡ false → b ≡ false → (a || b) ≡ false
or-none a b first other = ap (λ (c : Bool). c || b) first ∙ other

or-left : (a b : Bool) → a ≡ true → (a || b) ≡ true
or-left a b some = ap (λ (c : Bool). c || b) some

least-of : (p q : ℕ → Bool) (from : ℕ) (one other : Option ℕ) → IsLeastFrom p from one → IsLeastFrom q from other → IsLeastFrom (λ n. p n || q n) from (lesser one other)
least-of p q from None None first second = λ n after. or-none (p n) (q n) (first n after) (second n after)
least-of p q from None (Some next) first second = (second.0, (λ n after before. or-none (p n) (q n) (first n after) (second.1 n after before)), or-some (p next) (q next) second.2)
least-of p q from (Some next) None first second = (first.0, (λ n after before. or-none (p n) (q n) (first.1 n after before) (second n after)), or-left (p next) (q next) first.2)
least-of p q from (Some one) (Some other) first second = by_order (nat_lt other one) refl
  where
    by_order : (b : Bool) → nat_lt other one ≡ b → IsLeastFrom (λ n. p n || q n) from (if b then Some other else Some one)
    by_order true less =
        let before = ltb-true other one less in
        (second.0, (λ n after sooner. or-none (p n) (q n) (first.1 n after (omega (arith, before, sooner))) (second.1 n after sooner)), or-some (p other) (q other) second.2)
    by_order false not_ =
        let upto : one ≤ other = ltb-false other one not_ in
        (first.0, (λ n after sooner. or-none (p n) (q n) (first.1 n after sooner) (second.1 n after (omega (arith, upto, sooner)))), or-left (p one) (q one) first.2)

-- one variable more
any-more : (p : Bytes × Bytes → Bool) (vars : Bindings) (i : ℕ) (pair : Bytes × Bytes) → slice_get vars i ≡ Some pair → list_any p (take (suc i) vars) ≡ (list_any p (take i vars) || p pair)
any-more p [] i pair there = absurd (cc)
any-more p (x ∷ vars) zero pair there =
    let its : x ≡ pair = cc in
    or-false (p x) ∙ ap p its
  where
    or-false : (b : Bool) → (b || false) ≡ b
    or-false true = refl
    or-false false = refl
any-more p (x ∷ vars) (suc i) pair there =
    ap (λ (b : Bool). p x || b) (any-more p vars i pair there) ∙ or-assoc (p x) (list_any p (take i vars)) (p pair)
  where
    or-assoc : (a b c : Bool) → (a || (b || c)) ≡ ((a || b) || c)
    or-assoc true b c = refl
    or-assoc false b c = refl

or-last : (a b c : Bool) → ((a || c) || b) ≡ ((a || b) || c)
or-last true b c = refl
or-last false true true = refl
or-last false true false = refl
or-last false false c = or-false c
  where
    or-false : (c : Bool) → (c || false) ≡ c
    or-false true = refl
    or-false false = refl

wanted-more : (admits_ : Place → Bool) (name : Bytes) (vars : Bindings) (leaves : List Wanted) (i : ℕ) (key value : Bytes) → slice_get vars i ≡ Some (key, value)
    → (n : ℕ) → (has_wanted admits_ name (take i vars) leaves n || has_wanting admits_ name value leaves n) ≡ has_wanted admits_ name (take (i + 1) vars) leaves n
wanted-more admits_ name vars leaves i key value there n =
    let p : Bytes × Bytes → Bool = λ pair. has_wanting admits_ name pair.1 leaves n in
    let plain = has_wanting admits_ name [] leaves n in
    or-last (list_any p (take i vars)) (has_wanting admits_ name value leaves n) plain
    ∙ sym (ap (λ (b : Bool). b || plain) (any-more p vars i (key, value) there))
    ∙ ap (λ k. list_any p (take k vars) || plain) (sym (add-one i))

pub least-more : (admits_ : Place → Bool) (name : Bytes) (vars : Bindings) (leaves : List Wanted) (from i : ℕ) (key value : Bytes) (one other : Option ℕ) → slice_get vars i ≡ Some (key, value)
    → IsLeastFrom (has_wanted admits_ name (take i vars) leaves) from one → IsLeastFrom (has_wanting admits_ name value leaves) from other
    → IsLeastFrom (has_wanted admits_ name (take (i + 1) vars) leaves) from (lesser one other)
least-more admits_ name vars leaves from i key value one other there first second =
    least-same (λ n. has_wanted admits_ name (take i vars) leaves n || has_wanting admits_ name value leaves n) (has_wanted admits_ name (take (i + 1) vars) leaves) from
    (λ n after. wanted-more admits_ name vars leaves i key value there n) (lesser one other)
    (least-of (has_wanted admits_ name (take i vars) leaves) (has_wanting admits_ name value leaves) from one other first second)

or-again : (a b : Bool) → (a || b) ≡ ((a || b) || b)
or-again true b = refl
or-again false true = refl
or-again false false = refl

-- a variable without a value adds none
pub least-again : (admits_ : Place → Bool) (name : Bytes) (vars : Bindings) (leaves : List Wanted) (from i : ℕ) (key value : Bytes) (next : Option ℕ) → slice_get vars i ≡ Some (key, value)
    → value ≡ [] → IsLeastFrom (has_wanted admits_ name (take i vars) leaves) from next → IsLeastFrom (has_wanted admits_ name (take (i + 1) vars) leaves) from next
least-again admits_ name vars leaves from i key value next there empty first =
    least-same (has_wanted admits_ name (take i vars) leaves) (has_wanted admits_ name (take (i + 1) vars) leaves) from (λ n after. same n) next first
  where
    same : (n : ℕ) → has_wanted admits_ name (take i vars) leaves n ≡ has_wanted admits_ name (take (i + 1) vars) leaves n
    same n =
        or-again (list_any (λ (pair : Bytes × Bytes). has_wanting admits_ name pair.1 leaves n) (take i vars)) (has_wanting admits_ name [] leaves n)
        ∙ ap (λ (its : Bytes). has_wanted admits_ name (take i vars) leaves n || has_wanting admits_ name its leaves n) (sym empty)
        ∙ wanted-more admits_ name vars leaves i key value there n

-- a job that no other can come before is the first, whatever the other variables are
any-taken : (p : Bytes × Bytes → Bool) (vars : Bindings) (i : ℕ) → list_any p (take i vars) ≡ true → list_any p vars ≡ true
any-taken p vars zero some = absurd (cc)
any-taken p [] (suc i) some = absurd (cc)
any-taken p (x ∷ vars) (suc i) some = by_first (p x) some (any-taken p vars i)
  where
    by_first : (b : Bool) → (b || list_any p (take i vars)) ≡ true → (list_any p (take i vars) ≡ true → list_any p vars ≡ true) → (b || list_any p vars) ≡ true
    by_first true some ih = refl
    by_first false some ih = ih some

pub least-first : (admits_ : Place → Bool) (name : Bytes) (vars : Bindings) (leaves : List Wanted) (from i : ℕ)
    → IsLeastFrom (has_wanted admits_ name (take i vars) leaves) from (Some from) → IsLeastFrom (has_wanted admits_ name vars leaves) from (Some from)
least-first admits_ name vars leaves from i is =
    (is.0, (λ n after before. absurd (omega (arith, after, before))), by_some (list_any p (take i vars)) refl is.2)
  where
    p : Bytes × Bytes → Bool
    p pair = has_wanting admits_ name pair.1 leaves from

    by_some : (b : Bool) → list_any p (take i vars) ≡ b → (b || has_wanting admits_ name [] leaves from) ≡ true → (list_any p vars || has_wanting admits_ name [] leaves from) ≡ true
    by_some true some met = ap (λ (b : Bool). b || has_wanting admits_ name [] leaves from) (any-taken p vars i some)
    by_some false none met = ap (λ (b : Bool). list_any p vars || b) met ∙ or-true (list_any p vars)
