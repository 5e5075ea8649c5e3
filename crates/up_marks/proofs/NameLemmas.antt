-- An event that no leaf of an expression names changes nothing of it; and the index knows the leaves that do.
use Rattle.std.proofs.Common.{◌≡◌, ℕ, zero, suc, ◌+◌, ◌<◌, ◌≤◌, ◌==◌, Bool, true, false, cond, ◌||◌, List, [], ◌∷◌, ◌++◌, Option, None, Some, is_some, length, get_or, map, filter, bytes_eq, refl, sym, ◌∙◌, ap, subst, arith, append_assoc, eq-eqb, not, nat_lt, take, drop}
use Rattle.std.specs.Option.{option_to_list}
use Rattle.std.specs.List.{list_any, prefix_len}
use Rattle.std.specs.List.Sorted.{IsPartitionPoint, IsPartitionedBy}
use Rattle.std.proofs.lemmas.Bool.{ne_eqb, lt-ltb, ltb-true, ltb-false, eqb-true, eqb-false}
use Rattle.std.proofs.lemmas.List.{append-nil, map-append}
use Rattle.std.proofs.lemmas.Slice.Eq.{bytes_eq-Decides}
use Rattle.up_value.specs.Values.{Bytes}
use Rattle.up_conf.specs.declared.job.JobDef.{JobDef}
use Rattle.up_expr.specs.declared.expr.Leaf.{Leaf}
use Rattle.up_expr.specs.declared.node.Node.{Node}
use Rattle.up_expr.specs.declared.node.Node.TheVariants as node
use Rattle.up_expr.specs.Flat.{size, nodes_of}
use Rattle.up_expr.specs.Matching.{matches}
use Rattle.up_expr.specs.Trees.{Tree, One, Both, Either}
use Rattle.up_expr.specs.Truth.{Sight, first, holds, kept, taken}
use Rattle.up_expr.proofs.Flattening.{length_nodes}
use Rattle.up_image.specs.declared.index.Place.{Place}
use Rattle.up_image.specs.Index.{leaf_places, places_in, places_of}
use Rattle.up_marks.specs.Agreeing.{naming}
use Rattle.up_image.specs.Index.{named}
use Rattle.up_marks.specs.Naming.{names, naming_in, side_of, rank, rank_of, of_expression, Rising}

pub or_parts : (a b : Bool) → (a || b) ≡ false → (a ≡ false) × (b ≡ false)
or_parts true b e = absurd (cc)
or_parts false b e = (refl, e)

-- a leaf that doesn't name an event doesn't match it
pub first_other : (leaf : Leaf) (sights : List Sight) (s : Sight) → bytes_eq s.name leaf.event ≡ false → first leaf (sights ++ s ∷ []) ≡ first leaf sights
first_other leaf [] s other = rw other refl
first_other leaf (sight ∷ sights) s other = ap (λ f. cond (matches leaf sight.name sight.vars sight.env) (Some sight.event) f) (first_other leaf sights s other)

pub holds_other : (tree : Tree) (sights : List Sight) (s : Sight) → names tree s.name ≡ false → holds tree (sights ++ s ∷ []) ≡ holds tree sights
holds_other (One leaf) sights s other = ap is_some (first_other leaf sights s other)
holds_other (Both l r) sights s other =
    let parts = or_parts (names l s.name) (names r s.name) other in
    rw (holds_other l sights s parts.0, holds_other r sights s parts.1) refl
holds_other (Either l r) sights s other =
    let parts = or_parts (names l s.name) (names r s.name) other in
    rw (holds_other l sights s parts.0, holds_other r sights s parts.1) refl

pub kept_other : (tree : Tree) (sights : List Sight) (s : Sight) → names tree s.name ≡ false → kept tree (sights ++ s ∷ []) ≡ kept tree sights
kept_other (One leaf) sights s other = ap option_to_list (first_other leaf sights s other)
kept_other (Both l r) sights s other =
    let parts = or_parts (names l s.name) (names r s.name) other in
    rw (kept_other l sights s parts.0, kept_other r sights s parts.1) refl
kept_other (Either l r) sights s other =
    let parts = or_parts (names l s.name) (names r s.name) other in
    rw (kept_other l sights s parts.0, kept_other r sights s parts.1) refl

pub taken_other : (tree : Tree) (sights : List Sight) (s : Sight) → names tree s.name ≡ false → taken tree (sights ++ s ∷ []) ≡ taken tree sights
taken_other (One leaf) sights s other = ap option_to_list (first_other leaf sights s other)
taken_other (Both l r) sights s other =
    let parts = or_parts (names l s.name) (names r s.name) other in
    rw (holds_other l sights s parts.0, holds_other r sights s parts.1, taken_other l sights s parts.0, taken_other r sights s parts.1) refl
taken_other (Either l r) sights s other =
    let parts = or_parts (names l s.name) (names r s.name) other in
    rw (taken_other l sights s parts.0, taken_other r sights s parts.1) refl

-- an expression that names no event has no place for it
pub naming_none : (start : ℕ) (tree : Tree) (name : Bytes) → names tree name ≡ false → naming start tree name ≡ []
naming_none start (One leaf) name other = rw other refl
naming_none start (Both l r) name other =
    let parts = or_parts (names l name) (names r name) other in
    rw (naming_none start l name parts.0, naming_none (start + size l) r name parts.1) refl
naming_none start (Either l r) name other =
    let parts = or_parts (names l name) (names r name) other in
    rw (naming_none start l name parts.0, naming_none (start + size l) r name parts.1) refl

leaves-append : (job : ℕ) (start : Bool) (at : ℕ) (front back : List Node) → leaf_places job start at (front ++ back) ≡ leaf_places job start at front ++ leaf_places job start (at + length front) back
leaves-append job start at [] back = let e : at + 0 ≡ at = omega arith in rw e refl
leaves-append job start at (node.Leaf leaf ∷ front) back =
    let e : at + length (node.Leaf leaf ∷ front) ≡ at + 1 + length front = omega arith in
    rw e (ap (λ xs. record { event = leaf.event; job = job; start = start; node = at } ∷ xs) (leaves-append job start (at + 1) front back))
leaves-append job start at (node.And left right ∷ front) back =
    let e : at + length (node.And left right ∷ front) ≡ at + 1 + length front = omega arith in
    rw e (leaves-append job start (at + 1) front back)
leaves-append job start at (node.Or left right ∷ front) back =
    let e : at + length (node.Or left right ∷ front) ≡ at + 1 + length front = omega arith in
    rw e (leaves-append job start (at + 1) front back)

pub named-append : (name : Bytes) (xs ys : List Place) → named name (xs ++ ys) ≡ named name xs ++ named name ys
named-append name [] ys = refl
named-append name (x ∷ xs) ys = by_case (bytes_eq x.event name) (named-append name xs ys)
  where
    by_case : (b : Bool) → named name (xs ++ ys) ≡ named name xs ++ named name ys → cond b (x ∷ named name (xs ++ ys)) (named name (xs ++ ys)) ≡ cond b (x ∷ named name xs) (named name xs) ++ named name ys
    by_case true e = ap (λ zs. x ∷ zs) e
    by_case false e = e

pub filter-append : (p : Place → Bool) (xs ys : List Place) → filter p (xs ++ ys) ≡ filter p xs ++ filter p ys
filter-append p [] ys = refl
filter-append p (x ∷ xs) ys = by_case (p x) (filter-append p xs ys)
  where
    by_case : (b : Bool) → filter p (xs ++ ys) ≡ filter p xs ++ filter p ys → cond b (x ∷ filter p (xs ++ ys)) (filter p (xs ++ ys)) ≡ cond b (x ∷ filter p xs) (filter p xs) ++ filter p ys
    by_case true e = ap (λ zs. x ∷ zs) e
    by_case false e = e

abbrev pub node_of : Place → ℕ
node_of place = place.node

bytes_eq-sym : (a b : Bytes) → bytes_eq a b ≡ bytes_eq b a
bytes_eq-sym a b = by_case (bytes_eq a b) (bytes_eq b a) refl refl
  where
    by_case : (p q : Bool) → bytes_eq a b ≡ p → bytes_eq b a ≡ q → p ≡ q
    by_case true true e f = refl
    by_case false false e f = refl
    by_case true false e f =
        let other : bytes_eq b a ≡ true = (bytes_eq-Decides b a).1 (sym ((bytes_eq-Decides a b).0 e)) in
        sym other ∙ f
    by_case false true e f =
        let other : bytes_eq a b ≡ true = (bytes_eq-Decides a b).1 (sym ((bytes_eq-Decides b a).0 f)) in
        sym e ∙ other

one_place : (b : Bool) (place : Place) → map node_of (cond b (place ∷ []) []) ≡ cond b (place.node ∷ []) []
one_place true place = refl
one_place false place = refl

two_places : (job : ℕ) (side : Bool) (start n : ℕ) (l r : List Node) (last : Node) (name : Bytes) (x y : List ℕ) → leaf_places job side (start + length (l ++ r)) (last ∷ []) ≡ [] → length l ≡ n
    → map node_of (named name (leaf_places job side start l)) ≡ x → map node_of (named name (leaf_places job side (start + n) r)) ≡ y
    → map node_of (named name (leaf_places job side start (l ++ r ++ last ∷ []))) ≡ x ++ y
two_places job side start n l r last name x y none long left right =
    let front = leaf_places job side start l in
    let back = leaf_places job side (start + n) r in
    let is : leaf_places job side start (l ++ r ++ last ∷ []) ≡ front ++ back =
    leaves-append job side start (l ++ r) (last ∷ []) ∙ ap (λ ps. leaf_places job side start (l ++ r) ++ ps) none ∙ append-nil (leaf_places job side start (l ++ r))
    ∙ leaves-append job side start l r ∙ ap (λ k. front ++ leaf_places job side (start + k) r) long in
    ap (λ ps. map node_of (named name ps)) is ∙ ap (map node_of) (named-append name front back) ∙ map-append node_of (named name front) (named name back)
    ∙ rw (left, right) refl

-- the places of the leaves that name an event
pub naming_places : (job : ℕ) (side : Bool) (start : ℕ) (tree : Tree) (name : Bytes) → map node_of (named name (leaf_places job side start (nodes_of start tree))) ≡ naming start tree name
naming_places job side start (One leaf) name = one_place (bytes_eq leaf.event name) (record { event = leaf.event; job = job; start = side; node = start }) ∙ ap (λ b. cond b (start ∷ []) []) (bytes_eq-sym leaf.event name)
naming_places job side start (Both l r) name =
    two_places job side start (size l) (nodes_of start l) (nodes_of (start + size l) r) _ name _ _ refl (length_nodes start l) (naming_places job side start l name) (naming_places job side (start + size l) r name)
naming_places job side start (Either l r) name =
    two_places job side start (size l) (nodes_of start l) (nodes_of (start + size l) r) _ name _ _ refl (length_nodes start l) (naming_places job side start l name) (naming_places job side (start + size l) r name)

-- all of these are places of one expression
abbrev pub AllOf : ℕ → Bool → List Place → Type 0
AllOf job side [] = Unit {0}
AllOf job side (place ∷ places) = (place.job ≡ job) × (place.start ≡ side) × AllOf job side places

leaves_of : (job : ℕ) (side : Bool) (at : ℕ) (nodes : List Node) → AllOf job side (leaf_places job side at nodes)
leaves_of job side at [] = tt
leaves_of job side at (node.Leaf leaf ∷ nodes) = (refl, refl, leaves_of job side (at + 1) nodes)
leaves_of job side at (node.And left right ∷ nodes) = leaves_of job side (at + 1) nodes
leaves_of job side at (node.Or left right ∷ nodes) = leaves_of job side (at + 1) nodes

named_of : (job : ℕ) (side : Bool) (name : Bytes) (places : List Place) → AllOf job side places → AllOf job side (named name places)
named_of job side name [] all = tt
named_of job side name (place ∷ places) all = by_case (bytes_eq place.event name) (named_of job side name places all.2)
  where
    by_case : (b : Bool) → AllOf job side (named name places) → AllOf job side (cond b (place ∷ named name places) (named name places))
    by_case true rest = (all.0, all.1, rest)
    by_case false rest = rest

of_all : (job : ℕ) (side : Bool) (places : List Place) → AllOf job side places → of_expression job side places ≡ places
of_all job side [] all = refl
of_all job side (place ∷ places) all =
    rw (all.0, all.1, eq-eqb (rank job side) (rank job side) refl, of_all job side places all.2) refl

of_other : (job other : ℕ) (side want : Bool) (places : List Place) → (rank job side ≡ rank other want → ⊥) → AllOf job side places → of_expression other want places ≡ []
of_other job other side want [] apart all = refl
of_other job other side want (place ∷ places) apart all =
    rw (all.0, all.1, ne_eqb (rank job side) (rank other want) apart, of_other job other side want places apart all.2) refl

places_in_of : (job : ℕ) (side : Bool) (condition : Option Tree) → AllOf job side (places_in job side condition)
places_in_of job side None = tt
places_in_of job side (Some tree) = leaves_of job side 0 (nodes_of 0 tree)

pub naming_places_in : (job : ℕ) (side : Bool) (condition : Option Tree) (name : Bytes) → map node_of (named name (places_in job side condition)) ≡ naming_in condition name
naming_places_in job side None name = refl
naming_places_in job side (Some tree) name = naming_places job side 0 tree name

-- the places of one event in three parts
three_parts : (p : Place → Bool) (name : Bytes) (s t rest : List Place) → filter p (named name (s ++ t ++ rest)) ≡ filter p (named name s) ++ (filter p (named name t) ++ filter p (named name rest))
three_parts p name s t rest =
    ap (filter p) (named-append name (s ++ t) rest ∙ ap (λ xs. xs ++ named name rest) (named-append name s t) ∙ append_assoc (named name s) (named name t) (named name rest))
    ∙ filter-append p (named name s) (named name t ++ named name rest) ∙ ap (λ xs. filter p (named name s) ++ xs) (filter-append p (named name t) (named name rest))

abbrev test : ℕ → Bool → Place → Bool
test job side place = rank_of place == rank job side

apart_jobs : (at low : ℕ) (a b : Bool) → (at ≡ low → ⊥) → rank at a ≡ rank low b → ⊥
apart_jobs at low true true other e = other (omega (arith, e))
apart_jobs at low true false other e = absurd (omega (arith, e))
apart_jobs at low false true other e = absurd (omega (arith, e))
apart_jobs at low false false other e = other (omega (arith, e))

-- those of another expression
none_of : (at low : ℕ) (a b : Bool) (condition : Option Tree) (name : Bytes) → (rank at a ≡ rank low b → ⊥) → of_expression low b (named name (places_in at a condition)) ≡ []
none_of at low a b condition name apart = of_other at low a b (named name (places_in at a condition)) apart (named_of at a name (places_in at a condition) (places_in_of at a condition))

-- and its own
all_of : (at : ℕ) (a : Bool) (condition : Option Tree) (name : Bytes) → of_expression at a (named name (places_in at a condition)) ≡ named name (places_in at a condition)
all_of at a condition name = of_all at a (named name (places_in at a condition)) (named_of at a name (places_in at a condition) (places_in_of at a condition))

-- no place of an earlier job is among those of later ones
of_later : (at low : ℕ) (side : Bool) (jobs : List JobDef) (name : Bytes) → low < at → of_expression low side (named name (places_of at jobs)) ≡ []
of_later at low side [] name less = refl
of_later at low side (job ∷ jobs) name less =
    three_parts (test low side) name (places_in at false job.stop_on) (places_in at true job.start_on) (places_of (at + 1) jobs)
    ∙ rw (
      none_of at low false side job.stop_on name (apart_jobs at low false side (λ e. omega (arith, e))),
      none_of at low true side job.start_on name (apart_jobs at low true side (λ e. omega (arith, e))),
      of_later (at + 1) low side jobs name (omega arith),
    ) refl

here : (at : ℕ) (side : Bool) (job : JobDef) (jobs : List JobDef) (name : Bytes) → of_expression at side (named name (places_of at (job ∷ jobs))) ≡ named name (places_in at side (side_of side job))
here at true job jobs name =
    three_parts (test at true) name (places_in at false job.stop_on) (places_in at true job.start_on) (places_of (at + 1) jobs)
    ∙ rw (none_of at at false true job.stop_on name (λ e. omega (arith, e)), all_of at true job.start_on name, of_later (at + 1) at true jobs name (omega arith)) (append-nil (named name (places_in at true job.start_on)))
here at false job jobs name =
    three_parts (test at false) name (places_in at false job.stop_on) (places_in at true job.start_on) (places_of (at + 1) jobs)
    ∙ rw (all_of at false job.stop_on name, none_of at at true false job.start_on name (λ e. omega (arith, e)), of_later (at + 1) at false jobs name (omega arith)) (append-nil (named name (places_in at false job.stop_on)))

later : (at n : ℕ) (side : Bool) (job : JobDef) (jobs : List JobDef) (name : Bytes) → at < n → of_expression n side (named name (places_of at (job ∷ jobs))) ≡ of_expression n side (named name (places_of (at + 1) jobs))
later at n side job jobs name less =
    three_parts (test n side) name (places_in at false job.stop_on) (places_in at true job.start_on) (places_of (at + 1) jobs)
    ∙ rw (
      none_of at n false side job.stop_on name (apart_jobs at n false side (λ e. omega (arith, e))),
      none_of at n true side job.start_on name (apart_jobs at n true side (λ e. omega (arith, e))),
    ) refl

-- the index has, for each expression, the leaves that name an event
pub index_names : (at k : ℕ) (side : Bool) (jobs : List JobDef) (d : JobDef) (name : Bytes) → k < length jobs → map node_of (of_expression (at + k) side (named name (places_of at jobs))) ≡ naming_in (side_of side (get_or jobs k d)) name
index_names at k side [] d name below = absurd (omega arith)
index_names at zero side (job ∷ jobs) d name below =
    let e : at + 0 ≡ at = omega arith in
    ap (λ n. map node_of (of_expression n side (named name (places_of at (job ∷ jobs))))) e
    ∙ ap (map node_of) (here at side job jobs name) ∙ naming_places_in at side (side_of side job) name
index_names at (suc k) side (job ∷ jobs) d name below =
    let e : at + suc k ≡ at + 1 + k = omega arith in
    ap (map node_of) (later at (at + suc k) side job jobs name (omega arith))
    ∙ ap (λ n. map node_of (of_expression n side (named name (places_of (at + 1) jobs)))) e
    ∙ index_names (at + 1) k side jobs d name (omega arith)

pub places-leaves : (jobs : List JobDef) (name : Bytes) (k : ℕ) (side : Bool) (d : JobDef) → k < length jobs → map node_of (of_expression k side (named name (places_of 0 jobs))) ≡ naming_in (side_of side (get_or jobs k d)) name
places-leaves jobs name k side d below =
    let e : 0 + k ≡ k = omega arith in
    ap (λ n. map node_of (of_expression n side (named name (places_of 0 jobs)))) (sym e) ∙ index_names 0 k side jobs d name below

-- the places of jobs come in the order of expressions
pub rising_lower : (low high : ℕ) (places : List Place) → low ≤ high → Rising high places → Rising low places
rising_lower low high [] le up = tt
rising_lower low high (place ∷ places) le up = (omega (arith, up.0), up.1)

pub rising_named : (low : ℕ) (name : Bytes) (places : List Place) → Rising low places → Rising low (named name places)
rising_named low name [] up = tt
rising_named low name (place ∷ places) up = by_case (bytes_eq place.event name) (rising_named (rank_of place) name places up.1)
  where
    by_case : (b : Bool) → Rising (rank_of place) (named name places) → Rising low (cond b (place ∷ named name places) (named name places))
    by_case true rest = (up.0, rest)
    by_case false rest = rising_lower low (rank_of place) (named name places) up.0 rest

rising_before : (low job : ℕ) (side : Bool) (xs ys : List Place) → low ≤ rank job side → AllOf job side xs → Rising (rank job side) ys → Rising low (xs ++ ys)
rising_before low job side [] ys le all up = rising_lower low (rank job side) ys le up
rising_before low job side (x ∷ xs) ys le all up =
    let same : rank_of x ≡ rank job side = rw (all.0, all.1) refl in
    (omega (arith, le, same), rising_before (rank_of x) job side xs ys (omega (arith, same)) all.2 up)

pub rising_places : (at low : ℕ) (jobs : List JobDef) → low ≤ rank at false → Rising low (places_of at jobs)
rising_places at low [] le = tt
rising_places at low (job ∷ jobs) le =
    let s = places_in at false job.stop_on in
    let t = places_in at true job.start_on in
    subst (λ xs. Rising low xs) (sym (append_assoc s t (places_of (at + 1) jobs)))
    (rising_before low at false s (t ++ places_of (at + 1) jobs) le (places_in_of at false job.stop_on)
    (rising_before (rank at false) at true t (places_of (at + 1) jobs) (omega arith) (places_in_of at true job.start_on)
    (rising_places (at + 1) (rank at true) jobs (omega arith))))

pub rising_jobs : (jobs : List JobDef) → Rising 0 (places_of 0 jobs)
rising_jobs jobs = rising_places 0 0 jobs (omega arith)

-- and so do those of what stops job after job
pub rising_stops : (low n : ℕ) (condition : Option Tree) (rest : List Place) → low ≤ rank n false → Rising (rank n false) rest → Rising low (places_in n false condition ++ rest)
rising_stops low n condition rest le up = rising_before low n false (places_in n false condition) rest le (places_in_of n false condition) up

-- where an expression names an event, a place of its job does
any_of : (n : ℕ) (side : Bool) (places : List Place) → AllOf n side places → (map node_of places ≡ [] → ⊥) → list_any (λ (place : Place). place.job == n) places ≡ true
any_of n side [] all some = absurd (some refl)
any_of n side (place ∷ places) all some = rw (eq-eqb place.job n all.0) refl

pub any_named_stop : (n : ℕ) (condition : Option Tree) (name : Bytes) → (naming_in condition name ≡ [] → ⊥)
    → list_any (λ (place : Place). place.job == n) (named name (places_in n false condition)) ≡ true
any_named_stop n condition name some =
    any_of n false (named name (places_in n false condition)) (named_of n false name (places_in n false condition) (places_in_of n false condition)) (λ none. some (sym (naming_places_in n false condition name) ∙ none))

rising_at : (low : ℕ) (xs : List Place) (n : ℕ) (d : Place) → Rising low xs → n < length xs → low ≤ rank_of (get_or xs n d)
rising_at low [] n d up l = absurd (omega arith)
rising_at low (x ∷ xs) zero d up l = up.0
rising_at low (x ∷ xs) (suc n) d up l =
    let rest = rising_at (rank_of x) xs n d up.1 (omega arith) in
    omega (arith, up.0, rest)

-- those before a number come first
pub parted_rank : (n low : ℕ) (xs : List Place) → Rising low xs → IsPartitionedBy (λ x. nat_lt (rank_of x) n) xs
parted_rank n low [] up i j d le l h = absurd (omega arith)
parted_rank n low (x ∷ xs) up zero zero d le l h = h
parted_rank n low (x ∷ xs) up zero (suc j) d le l h =
    let last = rising_at (rank_of x) xs j d up.1 (omega arith) in
    lt-ltb (rank_of x) n (omega (arith, last, ltb-true (rank_of (get_or xs j d)) n h))
parted_rank n low (x ∷ xs) up (suc i) zero d le l h = absurd (omega arith)
parted_rank n low (x ∷ xs) up (suc i) (suc j) d le l h = parted_rank n (rank_of x) xs up.1 i j d (omega arith) (omega arith) h

-- the rest from there on
pub later_here : (n : ℕ) (xs : List Place) (i : ℕ) → i ≤ length xs → IsPartitionPoint (λ x. nat_lt (rank_of x) n ≡ true) (λ x. nat_lt (rank_of x) n ≡ false) xs i
    → drop i xs ≡ filter (λ x. not (nat_lt (rank_of x) n)) xs
later_here n [] zero within point = refl
later_here n [] (suc i) within point = refl
later_here n (x ∷ xs) zero within point =
    rw (point.1 0 x (omega arith) (omega arith)) (ap (λ ys. x ∷ ys) (later_here n xs 0 (omega arith) (λ k d low high. absurd (omega arith), λ k d low high. point.1 (suc k) d (omega arith) (omega arith))))
later_here n (x ∷ xs) (suc i) within point =
    rw (point.0 0 x (omega arith) (omega arith)) (later_here n xs i (omega arith) (λ k d low high. point.0 (suc k) d (omega arith) (omega arith), λ k d low high. point.1 (suc k) d (omega arith) (omega arith)))

-- a filter of the later ones leaves those with the number
equal_later : (n : ℕ) (xs : List Place) → filter (λ x. rank_of x == n) (filter (λ x. not (nat_lt (rank_of x) n)) xs) ≡ filter (λ x. rank_of x == n) xs
equal_later n [] = refl
equal_later n (x ∷ xs) = by_case (nat_lt (rank_of x) n) refl (equal_later n xs)
  where
    by_case : (b : Bool) → nat_lt (rank_of x) n ≡ b → filter (λ y. rank_of y == n) (filter (λ y. not (nat_lt (rank_of y) n)) xs) ≡ filter (λ y. rank_of y == n) xs
        → filter (λ y. rank_of y == n) (cond (not b) (x ∷ filter (λ y. not (nat_lt (rank_of y) n)) xs) (filter (λ y. not (nat_lt (rank_of y) n)) xs)) ≡ cond (rank_of x == n) (x ∷ filter (λ y. rank_of y == n) xs) (filter (λ y. rank_of y == n) xs)
    by_case true e rest = rw (ne_eqb (rank_of x) n (λ q. omega (arith, ltb-true (rank_of x) n e, q))) rest
    by_case false e rest = ap (λ ys. cond (rank_of x == n) (x ∷ ys) ys) rest

rising_filter : (p : Place → Bool) (low : ℕ) (xs : List Place) → Rising low xs → Rising low (filter p xs)
rising_filter p low [] up = tt
rising_filter p low (x ∷ xs) up = by_case (p x) (rising_filter p (rank_of x) xs up.1)
  where
    by_case : (b : Bool) → Rising (rank_of x) (filter p xs) → Rising low (cond b (x ∷ filter p xs) (filter p xs))
    by_case true rest = (up.0, rest)
    by_case false rest = rising_lower low (rank_of x) (filter p xs) up.0 rest

pub rising_later : (n low : ℕ) (xs : List Place) → Rising low xs → Rising n (filter (λ x. not (nat_lt (rank_of x) n)) xs)
rising_later n low [] up = tt
rising_later n low (x ∷ xs) up = by_case (nat_lt (rank_of x) n) refl (rising_later n (rank_of x) xs up.1)
  where
    by_case : (b : Bool) → nat_lt (rank_of x) n ≡ b → Rising n (filter (λ y. not (nat_lt (rank_of y) n)) xs)
        → Rising n (cond (not b) (x ∷ filter (λ y. not (nat_lt (rank_of y) n)) xs) (filter (λ y. not (nat_lt (rank_of y) n)) xs))
    by_case true e rest = rest
    by_case false e rest = (ltb-false (rank_of x) n e, rising_filter (λ y. not (nat_lt (rank_of y) n)) (rank_of x) xs up.1)

none_equal : (n low : ℕ) (xs : List Place) → n < low → Rising low xs → filter (λ x. rank_of x == n) xs ≡ []
none_equal n low [] less up = refl
none_equal n low (x ∷ xs) less up = rw (ne_eqb (rank_of x) n (λ e. omega (arith, e, up.0)), none_equal n (rank_of x) xs (omega (arith, up.0)) up.1) refl

-- where none is before the number, those with it come first
pub equal_here : (n low : ℕ) (xs : List Place) (m : ℕ) → n ≤ low → Rising low xs → m ≡ prefix_len (λ x. rank_of x == n) xs → take m xs ≡ filter (λ x. rank_of x == n) xs
equal_here n low [] m le up is = rw is refl
equal_here n low (x ∷ xs) m le up is = by_case (rank_of x == n) refl (λ k h counted. equal_here n (rank_of x) xs k h up.1 counted)
  where
    by_case : (b : Bool) → (rank_of x == n) ≡ b → ((k : ℕ) → n ≤ rank_of x → k ≡ prefix_len (λ y. rank_of y == n) xs → take k xs ≡ filter (λ y. rank_of y == n) xs)
        → take m (x ∷ xs) ≡ cond b (x ∷ filter (λ y. rank_of y == n) xs) (filter (λ y. rank_of y == n) xs)
    by_case true e after =
        let k = prefix_len (λ (y : Place). rank_of y == n) xs in
        let counted : m ≡ 1 + k = rw e at is in
        let long : m ≡ suc k = omega (arith, counted) in
        rw long (ap (λ ys. x ∷ ys) (after k (omega (arith, eqb-true (rank_of x) n e)) refl))
    by_case false e after =
        let counted : m ≡ 0 = rw e at is in
        let less : n < rank_of x = omega (arith, le, up.0, eqb-false (rank_of x) n e) in
        rw counted (sym (none_equal n (rank_of x) xs less up.1))

-- the leaves of one expression
pub leaves_here : (n : ℕ) (xs later : List Place) (m : ℕ) → Rising 0 xs → later ≡ filter (λ x. not (nat_lt (rank_of x) n)) xs → m ≡ prefix_len (λ x. rank_of x == n) later
    → take m later ≡ filter (λ x. rank_of x == n) xs
leaves_here n xs later m up is counted =
    equal_here n n later m (omega arith) (subst (λ ys. Rising n ys) (sym is) (rising_later n 0 xs up)) counted
    ∙ ap (filter (λ x. rank_of x == n)) is ∙ equal_later n xs
