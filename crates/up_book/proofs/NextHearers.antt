-- The first job, from one on, that hears of an event.
use Rattle.std.proofs.Common.{◌≡◌, ◌⊎◌, inl, inr, ℕ, zero, suc, ◌+◌, ◌-◌, ◌*◌, ◌<◌, ◌≤◌, ◌==◌, nat_le, nat_lt, Bool, true, false, not, ◌&&◌, ◌||◌, List, [], ◌∷◌, ◌++◌, length, map, drop, Option, None, Some, IfSome, slice_get, get_or, if◌then◌else◌, refl, sym, ◌∙◌, ap, arith, add-one, append_assoc, length-append, drop-cons, eq-eqb, eqb-true, ne_eqb, lt-ltb, ltb-true, ltb-false}
use Rattle.std.specs.Prelude.{option_and_then}
use Rattle.std.specs.List.{AllByRecursion, list_any}
use Rattle.std.specs.List.Sorted.{IsPartitionPoint, IsPartitionedBy}
use Rattle.std.specs.Str.{bytes_eq}
use Rattle.std.proofs.lemmas.Bool.{and_parts, leb-true}
use Rattle.std.proofs.lemmas.List.{append-nil}
use Rattle.up_conf.specs.declared.job.JobDef.{JobDef}
use Rattle.up_expr.specs.declared.node.Node.{Node}
use Rattle.up_expr.specs.declared.node.Node.TheVariants as node
use Rattle.up_expr.specs.Flat.{size, nodes_of}
use Rattle.up_expr.specs.Trees.{Tree, One, Both, Either}
use Rattle.up_expr.proofs.Flattening.{length_nodes}
use Rattle.up_image.specs.Index.{named}
use Rattle.up_image.specs.declared.index.Place.{Place}
use Rattle.up_marks.specs.Agreeing.{naming}
use Rattle.up_marks.specs.Finding.{IsNextJob, has_job, lesser}
use Rattle.up_marks.specs.Naming.{naming_in, side_of, bit_of, rank, rank_of, of_expression, Rising}
use Rattle.up_marks.specs.Ruling.{may_hear, one_fails, may_match, may_match_in, nodes_in, leaf_of, leaf_in, admits_by, admits}
use Rattle.up_model.specs.Chronicle.{Chronicle}
use Rattle.up_model.specs.Configuration.{Configuration}
use Rattle.up_model.specs.Instances.{Instance, instances_of}
use Rattle.up_model.specs.declared.event.Event.{Event}
use Rattle.up_book.specs.Hearers.{AreDeaf, IsDeaf, IsFound, AreFound, hears, one_hears, one_stops, has_stop, has_place, first_from, IsNextHearer, HasIndex}
use Rattle.up_book.specs.Keeps.{KeepsJobs}
use Rattle.up_book.specs.Keys.{job_at}
use Rattle.up_book.proofs.Keyed.{job-there}
use Rattle.up_book.specs.Summaries.{Summary, JobSummary, summary, job_summary}
use Rattle.up_book.specs.Views.{Places, view, job_view}
use Rattle.up_book.proofs.Lists.{map-nth, nth-map}
use Rattle.up_job.specs.JobLists.{instances_at, list_of}
use Rattle.up_job.specs.Lists.{nth}
use Rattle.up_job.specs.declared.instance.Instance.{Instance as Kept}
use Rattle.up_job.specs.declared.instances.JobInstances.{JobInstances}

pub bit-few : (b : Bool) → bit_of b ≤ 1
bit-few true = omega arith
bit-few false = omega arith

-- jobs rise with ranks
job-rises : (x y : Place) → rank_of x ≤ rank_of y → x.job ≤ y.job
job-rises x y up = omega (arith, up, bit-few x.start, bit-few y.start)

job-at : (x : Place) (xs : List Place) (n : ℕ) (d : Place) → Rising (rank_of x) xs → n < length xs → x.job ≤ (get_or xs n d).job
job-at x [] n d up within = absurd (omega arith)
job-at x (y ∷ ys) zero d up within = job-rises x y up.0
job-at x (y ∷ ys) (suc n) d up within =
    let rest = job-at y ys n d up.1 (omega arith) in
    omega (arith, rest, job-rises x y up.0)

-- so those before a job come first
pub parted-job : (job low : ℕ) (xs : List Place) → Rising low xs → IsPartitionedBy (λ x. nat_lt x.job job) xs
parted-job job low [] up i j d le l h = absurd (omega arith)
parted-job job low (x ∷ xs) up zero zero d le l h = h
parted-job job low (x ∷ xs) up zero (suc j) d le l h =
    let last = job-at x xs j d up.1 (omega arith) in
    lt-ltb x.job job (omega (arith, last, ltb-true (get_or xs j d).job job h))
parted-job job low (x ∷ xs) up (suc i) zero d le l h = absurd (omega arith)
parted-job job low (x ∷ xs) up (suc i) (suc j) d le l h = parted-job job (rank_of x) xs up.1 i j d (omega arith) (omega arith) h

-- the places from one on
pub first_left : (admits_ : Place → Bool) (from : ℕ) (places : List Place) (i : ℕ) (d : Place) → i < length places
    → first_from admits_ from (drop i places)
    ≡ (if nat_le from (get_or places i d).job && admits_ (get_or places i d) then Some (get_or places i d).job else first_from admits_ from (drop (i + 1) places))
first_left admits_ from places i d within =
    let one : drop i places ≡ get_or places i d ∷ drop (i + 1) places = rw add-one (drop-cons places i d within) in
    ap (first_from admits_ from) one

-- those of earlier jobs don't count
pub not-le : (a b : ℕ) → b < a → nat_le a b ≡ false
not-le a b less = by_case (nat_le a b) refl
  where
    by_case : (r : Bool) → nat_le a b ≡ r → r ≡ false
    by_case true is = absurd (omega (arith, less, leb-true a b is))
    by_case false is = refl

pub first-past : (admits_ : Place → Bool) (from : ℕ) (xs : List Place) (i : ℕ) → i ≤ length xs → IsPartitionPoint (λ x. nat_lt x.job from ≡ true) (λ x. nat_lt x.job from ≡ false) xs i
    → first_from admits_ from (drop i xs) ≡ first_from admits_ from xs
first-past admits_ from [] zero within point = refl
first-past admits_ from [] (suc i) within point = refl
first-past admits_ from (x ∷ xs) zero within point = refl
first-past admits_ from (x ∷ xs) (suc i) within point =
    let before : x.job < from = ltb-true x.job from (point.0 0 x (omega arith) (omega arith)) in
    let rest = first-past admits_ from xs i (omega (arith, within)) (λ k d low high. point.0 (suc k) d (omega arith) (omega arith), λ k d low high. point.1 (suc k) d (omega arith) (omega arith)) in
    rest ∙ sym (ap (λ (b : Bool). if b && admits_ x then Some x.job else first_from admits_ from xs) (not-le from x.job before))

-- in rising places the first is of the least job
none-later : (admits_ : Place → Bool) (job low : ℕ) (xs : List Place) → Rising low xs → job * 2 + 1 < low → has_job admits_ job xs ≡ false
none-later admits_ job low [] up below = refl
none-later admits_ job low (x ∷ xs) up below =
    rw (ne_eqb x.job job (λ is. omega (arith, is, below, up.0, bit-few x.start))) (none-later admits_ job (rank_of x) xs up.1 (omega (arith, below, up.0)))

or-true : (b : Bool) → (b || true) ≡ true
or-true true = refl
or-true false = refl

pub next-job : (admits_ : Place → Bool) (from low : ℕ) (xs : List Place) → Rising low xs → IsNextJob admits_ from xs (first_from admits_ from xs)
next-job admits_ from low [] up = λ job after. refl
next-job admits_ from low (x ∷ xs) up = by_case (nat_le from x.job && admits_ x) refl (next-job admits_ from (rank_of x) xs up.1)
  where
    later : (o : Option ℕ) → (nat_le from x.job && admits_ x) ≡ false → IsNextJob admits_ from xs o → IsNextJob admits_ from (x ∷ xs) o
    later o not_ rest = by_next o rest
      where
        same : (job : ℕ) → from ≤ job → has_job admits_ job (x ∷ xs) ≡ has_job admits_ job xs
        same job after = by_job (x.job == job) refl
          where
            by_job : (b : Bool) → (x.job == job) ≡ b → ((b && admits_ x) || has_job admits_ job xs) ≡ has_job admits_ job xs
            by_job false is = refl
            by_job true is =
                let here : x.job ≡ job = eqb-true x.job job is in
                let reached : nat_le from x.job ≡ true = grind (arith, here, after) in
                let unfit : admits_ x ≡ false = sym (ap (λ (b : Bool). b && admits_ x) reached) ∙ not_ in
                ap (λ (b : Bool). b || has_job admits_ job xs) unfit

        by_next : (o : Option ℕ) → IsNextJob admits_ from xs o → IsNextJob admits_ from (x ∷ xs) o
        by_next None rest = λ job after. same job after ∙ rest job after
        by_next (Some next) rest = (rest.0, (λ job after before. same job after ∙ rest.1 job after before), same next rest.0 ∙ rest.2)

    by_case : (b : Bool) → (nat_le from x.job && admits_ x) ≡ b → IsNextJob admits_ from xs (first_from admits_ from xs) → IsNextJob admits_ from (x ∷ xs) (if b then Some x.job else first_from admits_ from xs)
    by_case false is rest = later (first_from admits_ from xs) is rest
    by_case true is rest =
        let parts = and_parts (nat_le from x.job) (admits_ x) is in
        let mine : has_job admits_ x.job (x ∷ xs) ≡ true = rw (eq-eqb x.job x.job refl, parts.1) refl in (
          leb-true from x.job parts.0,
          (λ job after before. rw (ne_eqb x.job job (λ same. omega (arith, same, before))) (none-later admits_ job (rank_of x) xs up.1 (omega (arith, before, bit-few x.start)))),
          mine,
        )

pub next-later : (admits_ : Place → Bool) (from : ℕ) (xs : List Place) (next : Option ℕ) → IsNextJob admits_ from xs next → IfSome next (λ n. from ≤ n)
next-later admits_ from xs None is = tt
next-later admits_ from xs (Some n) is = is.0

-- the leaves of a tree that name an event, by their places among its nodes
get-past : {X : Type 0} (before xs : List X) (n i : ℕ) → n ≡ length before + i → slice_get (before ++ xs) n ≡ slice_get xs i
get-past [] xs n i is =
    let same : n ≡ i = omega (arith, is) in
    ap (slice_get xs) same
get-past (x ∷ before) xs n i is =
    let m : n ≡ suc (length before + i) = omega (arith, is) in
    ap (slice_get (x ∷ before ++ xs)) m ∙ get-past before xs (length before + i) i refl

any-append : {X : Type 0} (p : X → Bool) (xs ys : List X) → list_any p (xs ++ ys) ≡ (list_any p xs || list_any p ys)
any-append p [] ys = refl
any-append p (x ∷ xs) ys = by_case (p x) (any-append p xs ys)
  where
    by_case : (b : Bool) → list_any p (xs ++ ys) ≡ (list_any p xs || list_any p ys) → (b || list_any p (xs ++ ys)) ≡ ((b || list_any p xs) || list_any p ys)
    by_case true is = refl
    by_case false is = is

abbrev admits_in : Event → List Node → ℕ → Bool
admits_in event nodes at = admits_by event (option_and_then leaf_of (slice_get nodes at))

split-left : (before left right after : List Node) (last : Node) → before ++ (((left ++ right) ++ last ∷ []) ++ after) ≡ before ++ (left ++ (right ++ (last ∷ after)))
split-left before left right after last =
    ap (λ xs. before ++ xs) (append_assoc (left ++ right) (last ∷ []) after ∙ append_assoc left right (last ∷ after))

split-right : (before left right after : List Node) (last : Node) → before ++ (((left ++ right) ++ last ∷ []) ++ after) ≡ (before ++ left) ++ (right ++ (last ∷ after))
split-right before left right after last = split-left before left right after last ∙ sym (append_assoc before left (right ++ (last ∷ after)))

side-count : (before : List Node) (start : ℕ) (left : Tree) → length before ≡ start → length (before ++ nodes_of start left) ≡ start + size left
side-count before start left count = omega (arith, length-append before (nodes_of start left), length_nodes start left, count)

both-any : (p : ℕ → Bool) (xs ys : List ℕ) (a b : Bool) → list_any p xs ≡ a → list_any p ys ≡ b → list_any p (xs ++ ys) ≡ (a || b)
both-any p xs ys a b first other = any-append p xs ys ∙ ap (λ (r : Bool). r || list_any p ys) first ∙ ap (λ (r : Bool). a || r) other

or-false : (b : Bool) → (b || false) ≡ b
or-false true = refl
or-false false = refl

any-naming : (event : Event) (nodes before after : List Node) (start : ℕ) (tree : Tree) → length before ≡ start → nodes ≡ before ++ (nodes_of start tree ++ after)
    → list_any (admits_in event nodes) (naming start tree event.name) ≡ may_match tree event.name event.vars
any-naming event nodes before after start (One leaf) count is = by_case (bytes_eq event.name leaf.event) refl
  where
    here : slice_get nodes start ≡ Some (node.Leaf leaf)
    here = ap (λ xs. slice_get xs start) is ∙ get-past before (node.Leaf leaf ∷ after) start 0 (omega (arith, count))

    by_case : (b : Bool) → bytes_eq event.name leaf.event ≡ b → list_any (admits_in event nodes) (if b then start ∷ [] else []) ≡ not (if b then one_fails event.vars 0 leaf.values else true)
    by_case true named_ =
        or-false (admits_in event nodes start) ∙ ap (λ o. admits_by event (option_and_then leaf_of o)) here
        ∙ ap (λ (b : Bool). not (if b then one_fails event.vars 0 leaf.values else true)) named_
    by_case false named_ = refl
any-naming event nodes before after start (Both left right) count is =
    let last = node.And (start + size left - 1) (start + size left + size right - 1) in
    let back = nodes_of (start + size left) right in
    let laid : nodes ≡ before ++ (((nodes_of start left ++ back) ++ last ∷ []) ++ after) = is in
    both-any (admits_in event nodes) (naming start left event.name) (naming (start + size left) right event.name) (may_match left event.name event.vars) (may_match right event.name event.vars)
    (any-naming event nodes before (back ++ (last ∷ after)) start left count (laid ∙ split-left before (nodes_of start left) back after last))
    (any-naming event nodes (before ++ nodes_of start left) (last ∷ after) (start + size left) right (side-count before start left count) (laid ∙ split-right before (nodes_of start left) back after last))
any-naming event nodes before after start (Either left right) count is =
    let last = node.Or (start + size left - 1) (start + size left + size right - 1) in
    let back = nodes_of (start + size left) right in
    let laid : nodes ≡ before ++ (((nodes_of start left ++ back) ++ last ∷ []) ++ after) = is in
    both-any (admits_in event nodes) (naming start left event.name) (naming (start + size left) right event.name) (may_match left event.name event.vars) (may_match right event.name event.vars)
    (any-naming event nodes before (back ++ (last ∷ after)) start left count (laid ∙ split-left before (nodes_of start left) back after last))
    (any-naming event nodes (before ++ nodes_of start left) (last ∷ after) (start + size left) right (side-count before start left count) (laid ∙ split-right before (nodes_of start left) back after last))

any-naming-in : (event : Event) (condition : Option Tree) → list_any (admits_in event (nodes_in condition)) (naming_in condition event.name) ≡ may_match_in condition event.name event.vars
any-naming-in event None = refl
any-naming-in event (Some tree) = any-naming event (nodes_of 0 tree) [] [] 0 tree refl (sym (append-nil (nodes_of 0 tree)))

-- the places of one expression are of its leaves
side-is : (x : Place) (n : ℕ) (start : Bool) → rank_of x ≡ rank n start → x.start ≡ start
side-is x n start same = by_side x.start start refl refl
  where
    by_side : (a b : Bool) → x.start ≡ a → start ≡ b → a ≡ b
    by_side true true mine its = refl
    by_side false false mine its = refl
    by_side true false mine its = absurd (omega (arith, same, ap bit_of mine, ap bit_of its))
    by_side false true mine its = absurd (omega (arith, same, ap bit_of mine, ap bit_of its))

job-is : (x : Place) (n : ℕ) (start : Bool) → rank_of x ≡ rank n start → x.job ≡ n
job-is x n start same = omega (arith, same, bit-few x.start, bit-few start)

admits-own : (jobs : List JobDef) (event : Event) (n : ℕ) (start : Bool) (job : JobDef) (x : Place) → slice_get jobs n ≡ Some job → rank_of x ≡ rank n start
    → admits jobs event x ≡ admits_in event (nodes_in (side_of start job)) x.node
admits-own jobs event n start job x there same =
    ap (λ m. admits_by event (option_and_then (λ (j : JobDef). leaf_in (side_of x.start j) x.node) (slice_get jobs m))) (job-is x n start same)
    ∙ ap (λ o. admits_by event (option_and_then (λ (j : JobDef). leaf_in (side_of x.start j) x.node) o)) there
    ∙ ap (λ s. admits_by event (leaf_in (side_of s job) x.node)) (side-is x n start same)

any-own : (jobs : List JobDef) (event : Event) (n : ℕ) (start : Bool) (job : JobDef) (xs : List Place) → slice_get jobs n ≡ Some job
    → list_any (admits jobs event) (of_expression n start xs) ≡ list_any (admits_in event (nodes_in (side_of start job))) (map (λ x. x.node) (of_expression n start xs))
any-own jobs event n start job [] there = refl
any-own jobs event n start job (x ∷ xs) there = by_rank (rank_of x == rank n start) refl (any-own jobs event n start job xs there)
  where
    by_rank : (b : Bool) → (rank_of x == rank n start) ≡ b
        → list_any (admits jobs event) (of_expression n start xs) ≡ list_any (admits_in event (nodes_in (side_of start job))) (map (λ x. x.node) (of_expression n start xs))
        → list_any (admits jobs event) (if b then x ∷ of_expression n start xs else of_expression n start xs)
        ≡ list_any (admits_in event (nodes_in (side_of start job))) (map (λ x. x.node) (if b then x ∷ of_expression n start xs else of_expression n start xs))
    by_rank false is ih = ih
    by_rank true is ih =
        ap (λ (b : Bool). b || list_any (admits jobs event) (of_expression n start xs)) (admits-own jobs event n start job x there (eqb-true (rank_of x) (rank n start) is))
        ∙ ap (λ (b : Bool). admits_in event (nodes_in (side_of start job)) x.node || b) ih

-- a job has the places of its two expressions
or-swap : (a b c : Bool) → (a || (b || c)) ≡ (b || (a || c))
or-swap true true c = refl
or-swap true false c = refl
or-swap false b c = refl

or-assoc : (a b c : Bool) → (a || (b || c)) ≡ ((a || b) || c)
or-assoc true b c = refl
or-assoc false b c = refl

both-sides : (admits_ : Place → Bool) (n : ℕ) (xs : List Place) → has_job admits_ n xs ≡ (list_any admits_ (of_expression n true xs) || list_any admits_ (of_expression n false xs))
both-sides admits_ n [] = refl
both-sides admits_ n (x ∷ xs) = by_job (x.job == n) refl (both-sides admits_ n xs)
  where
    starts : List Place
    starts = of_expression n true xs

    stops : List Place
    stops = of_expression n false xs

    apart : (b : Bool) → (x.job == n) ≡ false → of_expression n b (x ∷ xs) ≡ of_expression n b xs
    apart b differs = rw (ne_eqb (rank_of x) (rank n b) (λ same. unlike (job-is x n b same))) refl
      where
        unlike : x.job ≡ n → ⊥
        unlike is =
            let yes : (x.job == n) ≡ true = eq-eqb x.job n is in
            absurd cc

    here : (b : Bool) → x.job ≡ n → x.start ≡ b → of_expression n b (x ∷ xs) ≡ x ∷ of_expression n b xs
    here b is side =
        let same : (rank_of x == rank n b) ≡ true = eq-eqb (rank_of x) (rank n b) (ap (λ m. m * 2 + bit_of x.start) is ∙ ap (λ s. n * 2 + bit_of s) side) in
        rw same refl

    there : (a b : Bool) → x.start ≡ a → bit_of a + bit_of b ≡ 1 → of_expression n b (x ∷ xs) ≡ of_expression n b xs
    there a b side other = rw (ne_eqb (rank_of x) (rank n b) (λ same. unlike (side-is x n b same))) refl
      where
        unlike : x.start ≡ b → ⊥
        unlike is = omega (arith, other, ap bit_of side, ap bit_of is)

    by_job : (b : Bool) → (x.job == n) ≡ b → has_job admits_ n xs ≡ (list_any admits_ starts || list_any admits_ stops)
        → ((b && admits_ x) || has_job admits_ n xs) ≡ (list_any admits_ (of_expression n true (x ∷ xs)) || list_any admits_ (of_expression n false (x ∷ xs)))
    by_job false differs ih =
        ih ∙ ap (λ ys. list_any admits_ ys || list_any admits_ stops) (sym (apart true differs)) ∙ ap (λ ys. list_any admits_ (of_expression n true (x ∷ xs)) || list_any admits_ ys) (sym (apart false differs))
    by_job true same ih = ap (λ (b : Bool). admits_ x || b) ih ∙ by_side x.start refl
      where
        is : x.job ≡ n
        is = eqb-true x.job n same

        by_side : (b : Bool) → x.start ≡ b
            → (admits_ x || (list_any admits_ starts || list_any admits_ stops)) ≡ (list_any admits_ (of_expression n true (x ∷ xs)) || list_any admits_ (of_expression n false (x ∷ xs)))
        by_side true side =
            or-assoc (admits_ x) (list_any admits_ starts) (list_any admits_ stops)
            ∙ ap (λ ys. list_any admits_ ys || list_any admits_ stops) (sym (here true is side))
            ∙ ap (λ ys. list_any admits_ (of_expression n true (x ∷ xs)) || list_any admits_ ys) (sym (there true false side refl))
        by_side false side =
            or-swap (admits_ x) (list_any admits_ starts) (list_any admits_ stops)
            ∙ ap (λ ys. list_any admits_ ys || (admits_ x || list_any admits_ stops)) (sym (there false true side refl))
            ∙ ap (λ ys. list_any admits_ (of_expression n true (x ∷ xs)) || list_any admits_ ys) (sym (here false is side))

-- so whether a job hears of an event can be told by the places of an index
side-heard : (jobs : List JobDef) (index : List Place) (n : ℕ) (start : Bool) (job : JobDef) (event : Event) → slice_get jobs n ≡ Some job
    → map (λ x. x.node) (of_expression n start (named event.name index)) ≡ naming_in (side_of start job) event.name
    → list_any (admits jobs event) (of_expression n start (named event.name index)) ≡ may_match_in (side_of start job) event.name event.vars
side-heard jobs index n start job event there leaves =
    any-own jobs event n start job (named event.name index) there ∙ ap (list_any (admits_in event (nodes_in (side_of start job)))) leaves ∙ any-naming-in event (side_of start job)

heard : (index : List Place) (config : Configuration) (n : ℕ) (job : JobDef) (event : Event) → HasIndex index config.jobs → job_at config n ≡ Some job
    → has_job (admits config.jobs event) n (named event.name index) ≡ hears job (Some event)
heard index config n job event its there =
    let listed = job-there config n job there in
    let places = named event.name index in
    let starts = side-heard config.jobs index n true job event there (its.starts n job listed event.name) in
    let stops = side-heard config.jobs index n false job event there (its.stops n job listed event.name) in
    both-sides (admits config.jobs event) n places
    ∙ ap (λ (b : Bool). b || list_any (admits config.jobs event) (of_expression n false places)) starts
    ∙ ap (λ (b : Bool). may_match_in job.start_on event.name event.vars || b) stops

or-first : (a b : Bool) → (a || b) ≡ false → a ≡ false
or-first true b none = absurd cc
or-first false b none = refl

or-rest : (a b : Bool) → (a || b) ≡ false → b ≡ false
or-rest true b none = absurd cc
or-rest false b none = none

or-some : (a b : Bool) → a ≡ true → (a || b) ≡ true
or-some true b some = refl
or-some false b some = absurd cc

-- what is kept of the instances of a job tells whether one of them hears
pub record Hearable (leaves others : List Place) (places : Places) (its : List JobInstances) (config : Configuration) (c : Chronicle) : Type 0 where
  pub keeps : KeepsJobs places its config c
  pub index : HasIndex leaves config.jobs
  pub found : AreFound others config c

one-same : (places : Places) (c : Chronicle) (event : Event) (ks : List Kept) (xs : List Instance) → map (view places) ks ≡ map (summary c) xs → one_stops event ks ≡ one_hears (Some event) xs
one-same places c event [] [] same = refl
one-same places c event [] (x ∷ xs) same = absurd cc
one-same places c event (k ∷ ks) [] same = absurd cc
one-same places c event (k ∷ ks) (x ∷ xs) same =
    let first : view places k ≡ summary c x = cc in
    let rest : map (view places) ks ≡ map (summary c) xs = cc in
    ap (λ (s : Summary). may_match_in s.file.stop_on event.name event.vars || one_stops event ks) first
    ∙ ap (λ (b : Bool). may_match_in x.file.stop_on event.name event.vars || b) (one-same places c event ks xs rest)

pub one-stops : (places : Places) (its : List JobInstances) (config : Configuration) (c : Chronicle) (event : Event) (n : ℕ) (job : JobDef) → KeepsJobs places its config c → job_at config n ≡ Some job
    → one_stops event (instances_at n its) ≡ one_hears (Some event) (instances_of job.name c)
one-stops places its config c event n job keeps there =
    let summed = map-nth (job_summary c) n config.jobs job (job-there config n job there) in
    let viewed : nth n (map (job_view places) its) ≡ Some (job_summary c job) = ap (nth n) keeps ∙ summed in
    let mine = nth-map (job_view places) n its (job_summary c job) viewed in
    ap (λ o. one_stops event (list_of o)) mine.1 ∙ one-same places c event mine.0.instances (instances_of job.name c) (ap (λ (s : JobSummary). s.instances) mine.2)

-- a job that has a place was asked
asked-vain : (test : ℕ → Bool) (n : ℕ) (xs : List Place) → has_place n xs ≡ true → has_job (λ x. test x.job) n xs ≡ false → test n ≡ false
asked-vain test n [] there none = absurd cc
asked-vain test n (x ∷ xs) there none = by_job (x.job == n) refl there none (asked-vain test n xs)
  where
    by_job : (b : Bool) → (x.job == n) ≡ b → (b || has_place n xs) ≡ true → ((b && test x.job) || has_job (λ x. test x.job) n xs) ≡ false
        → (has_place n xs ≡ true → has_job (λ x. test x.job) n xs ≡ false → test n ≡ false) → test n ≡ false
    by_job true same there none ih = ap test (sym (eqb-true x.job n same)) ∙ or-first (test x.job) _ none
    by_job false differs there none ih = ih there none

-- an instance that is found hears nothing if neither its job's leaves nor those of its own do
deaf-found : (others : List Place) (n : ℕ) (job : JobDef) (event : Event) (its : List Instance) → AllByRecursion (IsFound others n job) its → may_match_in job.stop_on event.name event.vars ≡ false
    → (has_place n (named event.name others) ≡ true → one_hears (Some event) its ≡ false) → AreDeaf (Some event) its
deaf-found others n job event [] found deaf quiet = tt
deaf-found others n job event (x ∷ its) found deaf quiet =
    (by_file found.0, deaf-found others n job event its found.1 deaf (λ there. or-rest mine (one_hears (Some event) its) (quiet there)))
  where
    mine : Bool
    mine = may_match_in x.file.stop_on event.name event.vars

    by_place : ((naming_in x.file.stop_on event.name ≡ []) ⊎ (has_place n (named event.name others) ≡ true)) → mine ≡ false
    by_place (inl none) = sym (any-naming-in event x.file.stop_on) ∙ ap (list_any (admits_in event (nodes_in x.file.stop_on))) none
    by_place (inr there) = or-first mine (one_hears (Some event) its) (quiet there)

    by_file : IsFound others n job x → mine ≡ false
    by_file (inl same) = ap (λ s. may_match_in s event.name event.vars) same ∙ deaf
    by_file (inr covered) = by_place (covered event.name)

job-deaf : (index others : List Place) (places : Places) (its : List JobInstances) (config : Configuration) (c : Chronicle) (event : Event) (n : ℕ) (job : JobDef) → Hearable index others places its config c → job_at config n ≡ Some job
    → has_job (admits config.jobs event) n (named event.name index) ≡ false → has_job (has_stop its event) n (named event.name others) ≡ false → IsDeaf job (Some event) c
job-deaf index others places its config c event n job h there unheard quiet =
    let none : hears job (Some event) ≡ false = sym (heard index config n job event h.index there) ∙ unheard in (
      or-first (may_hear job.start_on (Some event)) (may_hear job.stop_on (Some event)) none,
      deaf-found others n job event (instances_of job.name c) (h.found.each n job there) (or-rest (may_hear job.start_on (Some event)) (may_hear job.stop_on (Some event)) none)
          (λ placed. sym (one-stops places its config c event n job h.keeps there) ∙ asked-vain (λ m. one_stops event (instances_at m its)) n (named event.name others) placed quiet),
    )

-- a job that an option passed wasn't admitted
abbrev IsPassed : ℕ → Option ℕ → Type 0
IsPassed n None = Unit {0}
IsPassed n (Some next) = n < next

passed-none : (admits_ : Place → Bool) (from : ℕ) (xs : List Place) (next : Option ℕ) (n : ℕ) → IsNextJob admits_ from xs next → from ≤ n → IsPassed n next → has_job admits_ n xs ≡ false
passed-none admits_ from xs None n is after passed = is n after
passed-none admits_ from xs (Some next) n is after passed = is.1 n after passed

placed : (test : ℕ → Bool) (n : ℕ) (xs : List Place) → has_job (λ x. test x.job) n xs ≡ true → test n ≡ true
placed test n [] some = absurd cc
placed test n (x ∷ xs) some = by_job (x.job == n) (test x.job) refl refl some (placed test n xs)
  where
    by_job : (b d : Bool) → (x.job == n) ≡ b → test x.job ≡ d → ((b && d) || has_job (λ x. test x.job) n xs) ≡ true → (has_job (λ x. test x.job) n xs ≡ true → test n ≡ true) → test n ≡ true
    by_job true true same admitted some ih = ap test (sym (eqb-true x.job n same)) ∙ admitted
    by_job true false same isnt some ih = ih some
    by_job false d differs is some ih = ih some

pub next-hearer : (index others : List Place) (places : Places) (its : List JobInstances) (config : Configuration) (c : Chronicle) (event : Event) (from : ℕ) (a b : Option ℕ) → Hearable index others places its config c
    → IsNextJob (admits config.jobs event) from (named event.name index) a → IsNextJob (has_stop its event) from (named event.name others) b → IsNextHearer config (Some event) c from (lesser a b)
next-hearer index others places its config c event from a b h of_index of_others = by_next a b of_index of_others
  where
    deaf : (a b : Option ℕ) → IsNextJob (admits config.jobs event) from (named event.name index) a → IsNextJob (has_stop its event) from (named event.name others) b
        → (n : ℕ) (job : JobDef) → from ≤ n → job_at config n ≡ Some job → IsPassed n a → IsPassed n b → IsDeaf job (Some event) c
    deaf a b one other n job after there first second =
        job-deaf index others places its config c event n job h there (passed-none (admits config.jobs event) from (named event.name index) a n one after first) (passed-none (has_stop its event) from (named event.name others) b n other after second)

    by_file : (next : ℕ) (job : JobDef) → job_at config next ≡ Some job → has_job (admits config.jobs event) next (named event.name index) ≡ true → (hears job (Some event) || one_hears (Some event) (instances_of job.name c)) ≡ true
    by_file next job there some = or-some (hears job (Some event)) _ (sym (heard index config next job event h.index there) ∙ some)

    by_own : (next : ℕ) (job : JobDef) → job_at config next ≡ Some job → has_job (has_stop its event) next (named event.name others) ≡ true → (hears job (Some event) || one_hears (Some event) (instances_of job.name c)) ≡ true
    by_own next job there some =
        ap (λ (b : Bool). hears job (Some event) || b) (sym (one-stops places its config c event next job h.keeps there) ∙ placed (λ m. one_stops event (instances_at m its)) next (named event.name others) some) ∙ or-true (hears job (Some event))

    by_next : (a b : Option ℕ) → IsNextJob (admits config.jobs event) from (named event.name index) a → IsNextJob (has_stop its event) from (named event.name others) b → IsNextHearer config (Some event) c from (lesser a b)
    by_next None None one other = λ n job after there. deaf None None one other n job after there tt tt
    by_next None (Some next) one other = (other.0, (λ n job after before there. deaf None (Some next) one other n job after there tt before), (λ job there. by_own next job there other.2))
    by_next (Some next) None one other = (one.0, (λ n job after before there. deaf (Some next) None one other n job after there before tt), (λ job there. by_file next job there one.2))
    by_next (Some first) (Some second) one other = by_order (nat_lt second first) refl
      where
        by_order : (b : Bool) → nat_lt second first ≡ b → IsNextHearer config (Some event) c from (if b then Some second else Some first)
        by_order true less =
            let before = ltb-true second first less in
            (other.0, (λ n job after sooner there. deaf (Some first) (Some second) one other n job after there (omega (arith, before, sooner)) sooner), (λ job there. by_own second job there other.2))
        by_order false not_ =
            let upto : first ≤ second = omega (arith, ltb-false second first not_) in
            (one.0, (λ n job after sooner there. deaf (Some first) (Some second) one other n job after there sooner (omega (arith, upto, sooner))), (λ job there. by_file first job there one.2))

pub lesser-later : (from : ℕ) (a b : Option ℕ) → IfSome a (λ n. from ≤ n) → IfSome b (λ n. from ≤ n) → IfSome (lesser a b) (λ n. from ≤ n)
lesser-later from None b one other = other
lesser-later from (Some first) None one other = one
lesser-later from (Some first) (Some second) one other = by_order (nat_lt second first)
  where
    by_order : (b : Bool) → IfSome (if b then Some second else Some first) (λ n. from ≤ n)
    by_order true = other
    by_order false = one
