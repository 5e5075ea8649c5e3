-- The leaves of a table, and the runs of one event.
use Rattle.std.proofs.Common.{◌≡◌, ℕ, ◌+◌, ◌<◌, Bool, true, false, List, [], ◌∷◌, ◌++◌, refl, sym, ap, ◌∙◌, length, get_or, take, drop, append_assoc, arith, suc}
use Rattle.std.proofs.lemmas.List.{take_more, append-nil, length-take-le}
use Rattle.std.specs.List.{prefix_len}
use Rattle.std.proofs.lemmas.Slice.Eq.{bytes_eq-Decides}
use Rattle.std.specs.Str.{bytes_eq}
use Rattle.up_expr.specs.declared.node.Node.{Node}
use Rattle.up_expr.specs.declared.node.Node.TheVariants as node
use Rattle.up_conf.specs.declared.job.JobDef.{JobDef}
use Rattle.up_image.specs.declared.index.Place.{Place}
use Rattle.up_image.specs.Index.{leaf_places, places_in, places_of, onto_runs, runs_of}

leaves-append : (job : ℕ) (start : Bool) (at : ℕ) (front back : List Node) → leaf_places job start at (front ++ back) ≡ leaf_places job start at front ++ leaf_places job start (at + length front) back
leaves-append job start at [] back = let e : at + 0 ≡ at = omega arith in rw e refl
leaves-append job start at (node.Leaf leaf ∷ front) back =
    let e : at + length (node.Leaf leaf ∷ front) ≡ at + 1 + length front = omega arith in
    rw e (ap (λ xs. record { event = leaf.event; job = job; start = start; node = at } ∷ xs) (leaves-append job start (at + 1) front back))
leaves-append job start at (node.And left right ∷ front) back =
    let e : at + length (node.And left right ∷ front) ≡ at + 1 + length front = omega arith in
    rw e (leaves-append job start (at + 1) front back)
leaves-append job start at (node.Or left right ∷ front) back =
    let e : at + length (node.Or left right ∷ front) ≡ at + 1 + length front = omega arith in
    rw e (leaves-append job start (at + 1) front back)

-- one node more
pub leaves_more : (job : ℕ) (start : Bool) (old all next : List Place) (nodes : List Node) (i : ℕ) (d : Node) → i < length nodes
    → all ≡ old ++ leaf_places job start 0 (take i nodes) → next ≡ all ++ leaf_places job start i (get_or nodes i d ∷ [])
    → next ≡ old ++ leaf_places job start 0 (take (i + 1) nodes)
leaves_more job start old all next nodes i d below so_far one =
    let long : 0 + length (take i nodes) ≡ i = omega (arith, length_front nodes i below) in
    one ∙ ap (λ xs. xs ++ leaf_places job start i (get_or nodes i d ∷ [])) so_far
    ∙ append_assoc old (leaf_places job start 0 (take i nodes)) (leaf_places job start i (get_or nodes i d ∷ []))
    ∙ ap (λ xs. old ++ xs) (ap (λ n. leaf_places job start 0 (take i nodes) ++ leaf_places job start n (get_or nodes i d ∷ [])) (sym long)
    ∙ sym (leaves-append job start 0 (take i nodes) (get_or nodes i d ∷ [])) ∙ ap (λ ns. leaf_places job start 0 ns) (sym (take_more nodes i d below)))
  where
    length_front : (ns : List Node) (n : ℕ) → n < length ns → length (take n ns) ≡ n
    length_front ns n less = length-take-le n ns (omega arith)

-- the places of a job
abbrev job_places : ℕ → JobDef → List Place
job_places at job = places_in at false job.stop_on ++ places_in at true job.start_on

places-append : (at : ℕ) (front back : List JobDef) → places_of at (front ++ back) ≡ places_of at front ++ places_of (at + length front) back
places-append at [] back = let e : at + 0 ≡ at = omega arith in rw e refl
places-append at (job ∷ front) back =
    let e : at + length (job ∷ front) ≡ at + 1 + length front = omega arith in
    rw e (ap (λ xs. job_places at job ++ xs) (places-append (at + 1) front back) ∙ sym (append_assoc (job_places at job) (places_of (at + 1) front) (places_of (at + 1 + length front) back)))

-- one job more
pub places_more : (all next : List Place) (jobs : List JobDef) (i : ℕ) (d : JobDef) → i < length jobs → all ≡ places_of 0 (take i jobs)
    → next ≡ all ++ (places_in i false (get_or jobs i d).stop_on ++ places_in i true (get_or jobs i d).start_on) → next ≡ places_of 0 (take (i + 1) jobs)
places_more all next jobs i d below so_far one =
    let job = get_or jobs i d in
    let long : 0 + length (take i jobs) ≡ i = omega (arith, length-take-le i jobs (omega arith)) in
    one ∙ ap (λ xs. xs ++ job_places i job) so_far
    ∙ ap (λ n. places_of 0 (take i jobs) ++ job_places n job) (sym long)
    ∙ ap (λ xs. places_of 0 (take i jobs) ++ xs) (sym (append-nil (job_places (0 + length (take i jobs)) job)))
    ∙ sym (places-append 0 (take i jobs) (job ∷ []))
    ∙ ap (λ js. places_of 0 js) (sym (take_more jobs i d below))

-- the first run, and the runs of what stands after it
pub first_run : (first : Place) (places : List Place) (n : ℕ) → n ≡ prefix_len (λ place. bytes_eq place.event first.event) places
    → runs_of (first ∷ places) ≡ take (suc n) (first ∷ places) ∷ runs_of (drop (suc n) (first ∷ places))
first_run first [] n is = rw is refl
first_run first (next ∷ places) n is = by_case (bytes_eq next.event first.event) refl (first_run next places (prefix_len (λ place. bytes_eq place.event next.event) places) refl)
  where
    by_case : (b : Bool) → bytes_eq next.event first.event ≡ b → let m = prefix_len (λ place. bytes_eq place.event next.event) places in
        onto_runs next (runs_of places) ≡ (next ∷ take m places) ∷ runs_of (drop m places)
        → onto_runs first (onto_runs next (runs_of places)) ≡ take (suc n) (first ∷ next ∷ places) ∷ runs_of (drop (suc n) (first ∷ next ∷ places))
    by_case true match after =
        let m = prefix_len (λ place. bytes_eq place.event next.event) places in
        let same : next.event ≡ first.event = (bytes_eq-Decides next.event first.event).0 match in
        let known : prefix_len (λ place. bytes_eq place.event first.event) places ≡ m = ap (λ e. prefix_len (λ place. bytes_eq place.event e) places) (sym same) in
        let counted : n ≡ 1 + prefix_len (λ place. bytes_eq place.event first.event) places = rw match at is in
        let long : n ≡ suc m = omega (arith, counted, known) in
        ap (onto_runs first) after ∙ rw (match, long) refl
    by_case false other after =
        let counted : n ≡ 0 = rw other at is in
        ap (onto_runs first) after ∙ rw (other, counted) (ap (λ runs. (first ∷ []) ∷ runs) (sym after))

-- the same of a list that isn't empty
pub run_split : (first : Place) (others places : List Place) (n : ℕ) → places ≡ first ∷ others → n ≡ prefix_len (λ place. bytes_eq place.event first.event) others
    → runs_of places ≡ take (1 + n) places ∷ runs_of (drop (1 + n) places)
run_split first others places n is counted = let e : 1 + n ≡ suc n = omega arith in rw (is, e) (first_run first others n counted)
