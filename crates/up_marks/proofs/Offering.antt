-- What an event changes that is offered to the leaves that name it.
use Rattle.std.proofs.Common.{◌≡◌, ℕ, ◌+◌, ◌<◌, ◌≤◌, ◌==◌, Bool, true, false, List, [], ◌∷◌, ◌++◌, Option, None, Some, refl, sym, ap, ◌∙◌, length, filter, arith, cond, is_some, option_map, nat_lt, length-append, if◌then◌else◌, eq-eqb}
use Rattle.std.specs.Str.{bytes_eq}
use Rattle.std.proofs.lemmas.Bool.{ne_eqb, lt-ltb, le-ltb}
use Rattle.up_value.specs.Values.{Bytes, Bindings}
use Rattle.up_expr.specs.Flat.{size}
use Rattle.up_expr.specs.Matching.{matches, tests_hold}
use Rattle.up_expr.specs.declared.expr.Leaf.{Leaf}
use Rattle.up_expr.specs.Trees.{Tree, One, Both, Either}
use Rattle.up_expr.specs.Truth.{Sight, first}
use Rattle.up_model.specs.declared.event_id.EventId.{EventId}
use Rattle.up_marks.specs.declared.mark.Mark.{Mark}
use Rattle.up_marks.specs.Marking.{Kept, with_kept, all_kept, newly_matches, marks_of, kept_of, occurs, uses}
use Rattle.up_marks.specs.Agreeing.{Agrees, KeepsFirst, sight_of, naming, newly}
use Rattle.std.specs.Option.{option_to_list}
use Rattle.up_marks.proofs.Firsts.{some_same}
use Rattle.up_marks.proofs.Markings.{kept_in_tree}

-- whether a place is among these
abbrev listed : ℕ → List ℕ → Bool
listed n [] = false
listed n (m ∷ ns) = if n == m then true else listed n ns

-- the leaves that an event is new to
abbrev new_nodes : ℕ → Tree → Kept → Bytes → Bindings → Bindings → List ℕ
new_nodes start (One leaf) kept name vars env =
    if is_some (kept start) then [] else (if matches leaf name vars env then start ∷ [] else [])
new_nodes start (Both l r) kept name vars env = new_nodes start l kept name vars env ++ new_nodes (start + size l) r kept name vars env
new_nodes start (Either l r) kept name vars env = new_nodes start l kept name vars env ++ new_nodes (start + size l) r kept name vars env

-- each is within these bounds
abbrev AllFrom : ℕ → ℕ → List ℕ → Type 0
AllFrom low high [] = Unit {0}
AllFrom low high (n ∷ ns) = (low ≤ n) × (n < high) × AllFrom low high ns

from-append : (low high : ℕ) (xs ys : List ℕ) → AllFrom low high xs → AllFrom low high ys → AllFrom low high (xs ++ ys)
from-append low high [] ys p q = q
from-append low high (x ∷ xs) ys p q = (p.0, p.1, from-append low high xs ys p.2 q)

from-wider : (low high l h : ℕ) (xs : List ℕ) → l ≤ low → high ≤ h → AllFrom low high xs → AllFrom l h xs
from-wider low high l h [] p q r = tt
from-wider low high l h (x ∷ xs) p q r = (omega (arith, r.0), omega (arith, r.1), from-wider low high l h xs p q r.2)

naming_from : (start : ℕ) (tree : Tree) (name : Bytes) → AllFrom start (start + size tree) (naming start tree name)
naming_from start (One leaf) name = by_case (bytes_eq name leaf.event)
  where
    by_case : (b : Bool) → AllFrom start (start + 1) (cond b (start ∷ []) [])
    by_case true = (omega arith, omega arith, tt)
    by_case false = tt
naming_from start (Both l r) name =
    from-append start (start + size (Both l r)) (naming start l name) (naming (start + size l) r name)
    (from-wider start (start + size l) start (start + size (Both l r)) (naming start l name) (omega arith) (omega arith) (naming_from start l name))
    (from-wider (start + size l) (start + size l + size r) start (start + size (Both l r)) (naming (start + size l) r name) (omega arith) (omega arith) (naming_from (start + size l) r name))
naming_from start (Either l r) name =
    from-append start (start + size (Either l r)) (naming start l name) (naming (start + size l) r name)
    (from-wider start (start + size l) start (start + size (Either l r)) (naming start l name) (omega arith) (omega arith) (naming_from start l name))
    (from-wider (start + size l) (start + size l + size r) start (start + size (Either l r)) (naming (start + size l) r name) (omega arith) (omega arith) (naming_from (start + size l) r name))

filter-append : (p : ℕ → Bool) (xs ys : List ℕ) → filter p (xs ++ ys) ≡ filter p xs ++ filter p ys
filter-append p [] ys = refl
filter-append p (x ∷ xs) ys = by_case (p x) (filter-append p xs ys)
  where
    by_case : (b : Bool) → filter p (xs ++ ys) ≡ filter p xs ++ filter p ys → cond b (x ∷ filter p (xs ++ ys)) (filter p (xs ++ ys)) ≡ cond b (x ∷ filter p xs) (filter p xs) ++ filter p ys
    by_case true e = ap (λ zs. x ∷ zs) e
    by_case false e = e

join_same : {a b x y : List ℕ} → a ≡ x → b ≡ y → a ++ b ≡ x ++ y
join_same p q = cc

-- tests that agree within bounds filter alike
filter-same : (p q : ℕ → Bool) (low high : ℕ) (xs : List ℕ) → AllFrom low high xs → ((n : ℕ) → low ≤ n → n < high → p n ≡ q n) → filter p xs ≡ filter q xs
filter-same p q low high [] within same = refl
filter-same p q low high (x ∷ xs) within same = rw (same x within.0 within.1, filter-same p q low high xs within.2 same) refl

leaf_named : (start : ℕ) (b k t : Bool) → filter (λ node. cond (node == start) (cond k false (cond b t false)) false) (cond b (start ∷ []) []) ≡ cond k [] (cond (cond b t false) (start ∷ []) [])
leaf_named start true true t = rw (eq-eqb start start refl) refl
leaf_named start true false true = rw (eq-eqb start start refl) refl
leaf_named start true false false = rw (eq-eqb start start refl) refl
leaf_named start false true t = refl
leaf_named start false false t = refl

chooses_left : (n m : ℕ) (a b : Bool) → n < m → cond (nat_lt n m) a b ≡ a
chooses_left n m a b less = rw (lt-ltb n m less) refl

chooses_right : (n m : ℕ) (a b : Bool) → m ≤ n → cond (nat_lt n m) a b ≡ b
chooses_right n m a b more = rw (le-ltb n m more) refl

-- the leaves that name an event and that it is new to are those that it is new to
pub new_named : (start : ℕ) (tree : Tree) (kept : Kept) (name : Bytes) (vars env : Bindings) → filter (newly_matches start tree kept name vars env) (naming start tree name) ≡ new_nodes start tree kept name vars env
new_named start (One leaf) kept name vars env = leaf_named start (bytes_eq name leaf.event) (is_some (kept start)) (tests_hold vars env 0 leaf.values)
new_named start (Both l r) kept name vars env =
    let m = start + size l in
    let p = newly_matches start (Both l r) kept name vars env in
    let left = filter-same p (newly_matches start l kept name vars env) start m (naming start l name) (naming_from start l name)
    (λ n low high. chooses_left n m (newly_matches start l kept name vars env n) (newly_matches m r kept name vars env n) high) in
    let right = filter-same p (newly_matches m r kept name vars env) m (m + size r) (naming m r name) (naming_from m r name)
    (λ n low high. chooses_right n m (newly_matches start l kept name vars env n) (newly_matches m r kept name vars env n) low) in
    filter-append p (naming start l name) (naming m r name)
    ∙ join_same (left ∙ new_named start l kept name vars env) (right ∙ new_named m r kept name vars env)
new_named start (Either l r) kept name vars env =
    let m = start + size l in
    let p = newly_matches start (Either l r) kept name vars env in
    let left = filter-same p (newly_matches start l kept name vars env) start m (naming start l name) (naming_from start l name)
    (λ n low high. chooses_left n m (newly_matches start l kept name vars env n) (newly_matches m r kept name vars env n) high) in
    let right = filter-same p (newly_matches m r kept name vars env) m (m + size r) (naming m r name) (naming_from m r name)
    (λ n low high. chooses_right n m (newly_matches start l kept name vars env n) (newly_matches m r kept name vars env n) low) in
    filter-append p (naming start l name) (naming m r name)
    ∙ join_same (left ∙ new_named start l kept name vars env) (right ∙ new_named m r kept name vars env)

-- they stand among the nodes of the tree
new_from : (start : ℕ) (tree : Tree) (kept : Kept) (name : Bytes) (vars env : Bindings) → AllFrom start (start + size tree) (new_nodes start tree kept name vars env)
new_from start (One leaf) kept name vars env = by_case (is_some (kept start)) (matches leaf name vars env)
  where
    by_case : (k m : Bool) → AllFrom start (start + 1) (cond k [] (cond m (start ∷ []) []))
    by_case true m = tt
    by_case false true = (omega arith, omega arith, tt)
    by_case false false = tt
new_from start (Both l r) kept name vars env =
    from-append start (start + size (Both l r)) (new_nodes start l kept name vars env) (new_nodes (start + size l) r kept name vars env)
    (from-wider start (start + size l) start (start + size (Both l r)) (new_nodes start l kept name vars env) (omega arith) (omega arith) (new_from start l kept name vars env))
    (from-wider (start + size l) (start + size l + size r) start (start + size (Both l r)) (new_nodes (start + size l) r kept name vars env) (omega arith) (omega arith) (new_from (start + size l) r kept name vars env))
new_from start (Either l r) kept name vars env =
    from-append start (start + size (Either l r)) (new_nodes start l kept name vars env) (new_nodes (start + size l) r kept name vars env)
    (from-wider start (start + size l) start (start + size (Either l r)) (new_nodes start l kept name vars env) (omega arith) (omega arith) (new_from start l kept name vars env))
    (from-wider (start + size l) (start + size l + size r) start (start + size (Either l r)) (new_nodes (start + size l) r kept name vars env) (omega arith) (omega arith) (new_from (start + size l) r kept name vars env))

not_same : (a b : ℕ) → (a ≡ b → ⊥) → (a == b) ≡ false
not_same a b apart = ne_eqb a b apart

listed_under : (n low high : ℕ) (ns : List ℕ) → AllFrom low high ns → n < low → listed n ns ≡ false
listed_under n low high [] within less = refl
listed_under n low high (m ∷ ns) within less =
    rw (not_same n m (λ e. omega (arith, within.0)), listed_under n low high ns within.2 less) refl

listed_over : (n low high : ℕ) (ns : List ℕ) → AllFrom low high ns → high ≤ n → listed n ns ≡ false
listed_over n low high [] within more = refl
listed_over n low high (m ∷ ns) within more =
    rw (not_same n m (λ e. omega (arith, within.1)), listed_over n low high ns within.2 more) refl

listed_left : (n : ℕ) (xs ys : List ℕ) → listed n ys ≡ false → listed n (xs ++ ys) ≡ listed n xs
listed_left n [] ys none = none
listed_left n (x ∷ xs) ys none = ap (λ b. cond (n == x) true b) (listed_left n xs ys none)

listed_right : (n : ℕ) (xs ys : List ℕ) → listed n xs ≡ false → listed n (xs ++ ys) ≡ listed n ys
listed_right n [] ys none = refl
listed_right n (x ∷ xs) ys none = by_case (n == x) none (λ rest. listed_right n xs ys rest)
  where
    by_case : (b : Bool) → cond b true (listed n xs) ≡ false → (listed n xs ≡ false → listed n (xs ++ ys) ≡ listed n ys) → cond b true (listed n (xs ++ ys)) ≡ listed n ys
    by_case true e next = absurd (cc)
    by_case false e next = next e

-- what a leaf keeps after that
pub all_kept_at : (ns : List ℕ) (event : EventId) (kept : Kept) (n : ℕ) → all_kept ns event kept n ≡ cond (listed n ns) (Some event) (kept n)
all_kept_at [] event kept n = refl
all_kept_at (m ∷ ns) event kept n = all_kept_at ns event (with_kept m event kept) n ∙ by_case (n == m) (listed n ns)
  where
    by_case : (a b : Bool) → cond b (Some event) (cond a (Some event) (kept n)) ≡ cond (cond a true b) (Some event) (kept n)
    by_case true true = refl
    by_case true false = refl
    by_case false b = refl

-- the first of two
abbrev or_later : Option ℕ → Option ℕ → Option ℕ
or_later None later = later
or_later (Some one) later = Some one

first_more : (leaf : Leaf) (sights : List Sight) (s : Sight) → first leaf (sights ++ s ∷ []) ≡ or_later (first leaf sights) (cond (matches leaf s.name s.vars s.env) (Some s.event) None)
first_more leaf [] s = refl
first_more leaf (sight ∷ sights) s = by_case (matches leaf sight.name sight.vars sight.env) (first_more leaf sights s)
  where
    by_case : (b : Bool) → first leaf (sights ++ s ∷ []) ≡ or_later (first leaf sights) (cond (matches leaf s.name s.vars s.env) (Some s.event) None)
        → cond b (Some sight.event) (first leaf (sights ++ s ∷ [])) ≡ or_later (cond b (Some sight.event) (first leaf sights)) (cond (matches leaf s.name s.vars s.env) (Some s.event) None)
    by_case true e = refl
    by_case false e = e

leaf_after : (event_of : EventId → Option ℕ) (id : EventId) (e : ℕ) → event_of id ≡ Some e → (start : ℕ) (k : Option EventId) (f : Option ℕ) (m : Bool) → option_map event_of k ≡ option_map Some f
    → option_map event_of (cond (listed start (cond (is_some k) [] (cond m (start ∷ []) []))) (Some id) k) ≡ option_map Some (or_later f (cond m (Some e) None))
leaf_after event_of id e place start (Some k) (Some f) m firsts = firsts
leaf_after event_of id e place start None None true firsts = rw (eq-eqb start start refl) (ap Some place)
leaf_after event_of id e place start None None false firsts = refl
leaf_after event_of id e place start (Some k) None m firsts = absurd (cc)
leaf_after event_of id e place start None (Some f) m firsts = absurd (cc)

-- what is kept after an event agrees with what was seen and the event
pub firsts_after : (event_of : EventId → Option ℕ) (id : EventId) (e : ℕ) → event_of id ≡ Some e → (start : ℕ) (tree : Tree) (kept after : Kept) (name : Bytes) (vars env : Bindings) (sights : List Sight) → KeepsFirst event_of start tree kept sights
    → ((n : ℕ) → start ≤ n → n < start + size tree → after n ≡ cond (listed n (new_nodes start tree kept name vars env)) (Some id) (kept n))
    → KeepsFirst event_of start tree after (sights ++ sight_of e name vars env ∷ [])
firsts_after event_of id e place start (One leaf) kept after name vars env sights firsts same =
    ap (option_map event_of) (same start (omega arith) (omega arith))
    ∙ leaf_after event_of id e place start (kept start) (first leaf sights) (matches leaf name vars env) firsts
    ∙ ap (option_map Some) (sym (first_more leaf sights (sight_of e name vars env)))
firsts_after event_of id e place start (Both l r) kept after name vars env sights firsts same =
    let m = start + size l in
    let fl = new_nodes start l kept name vars env in
    let fr = new_nodes m r kept name vars env in (
      firsts_after event_of id e place start l kept after name vars env sights firsts.0
          (λ n low high. same n low (omega arith) ∙ ap (λ b. cond b (Some id) (kept n)) (listed_left n fl fr (listed_under n m (m + size r) fr (new_from m r kept name vars env) high))),
      firsts_after event_of id e place m r kept after name vars env sights firsts.1
          (λ n low high. same n (omega arith) (omega arith) ∙ ap (λ b. cond b (Some id) (kept n)) (listed_right n fl fr (listed_over n start m fl (new_from start l kept name vars env) low))),
    )
firsts_after event_of id e place start (Either l r) kept after name vars env sights firsts same =
    let m = start + size l in
    let fl = new_nodes start l kept name vars env in
    let fr = new_nodes m r kept name vars env in (
      firsts_after event_of id e place start l kept after name vars env sights firsts.0
          (λ n low high. same n low (omega arith) ∙ ap (λ b. cond b (Some id) (kept n)) (listed_left n fl fr (listed_under n m (m + size r) fr (new_from m r kept name vars env) high))),
      firsts_after event_of id e place m r kept after name vars env sights firsts.1
          (λ n low high. same n (omega arith) (omega arith) ∙ ap (λ b. cond b (Some id) (kept n)) (listed_right n fl fr (listed_over n start m fl (new_from start l kept name vars env) low))),
    )

leaf_newly : (n : ℕ) (k f m : Bool) → k ≡ f → length (cond k [] (cond m (n ∷ []) [])) ≡ cond f 0 (cond m 1 0)
leaf_newly n true f m same = rw (sym same) refl
leaf_newly n false f true same = rw (sym same) refl
leaf_newly n false f false same = rw (sym same) refl

-- as many leaves newly keep an event as it is new to
pub newly_counted : (event_of : EventId → Option ℕ) (start : ℕ) (tree : Tree) (kept : Kept) (e : ℕ) (name : Bytes) (vars env : Bindings) (sights : List Sight) → KeepsFirst event_of start tree kept sights
    → length (new_nodes start tree kept name vars env) ≡ newly tree sights (sight_of e name vars env)
newly_counted event_of start (One leaf) kept e name vars env sights firsts =
    leaf_newly start (is_some (kept start)) (is_some (first leaf sights)) (matches leaf name vars env) (some_same event_of (kept start) (first leaf sights) firsts)
newly_counted event_of start (Both l r) kept e name vars env sights firsts =
    length-append (new_nodes start l kept name vars env) (new_nodes (start + size l) r kept name vars env)
    ∙ rw (newly_counted event_of start l kept e name vars env sights firsts.0, newly_counted event_of (start + size l) r kept e name vars env sights firsts.1) refl
newly_counted event_of start (Either l r) kept e name vars env sights firsts =
    length-append (new_nodes start l kept name vars env) (new_nodes (start + size l) r kept name vars env)
    ∙ rw (newly_counted event_of start l kept e name vars env sights firsts.0, newly_counted event_of (start + size l) r kept e name vars env sights firsts.1) refl

-- marks agree after an offer with what was seen and the event
pub agrees_after : (event_of : EventId → Option ℕ) (id : EventId) (e : ℕ) → event_of id ≡ Some e → (tree : Tree) (name : Bytes) (vars env : Bindings) (old new : List Mark) (nodes matched : List ℕ) (sights : List Sight)
    → (agrees : Agrees event_of old tree sights) → nodes ≡ naming 0 tree name → matched ≡ filter (newly_matches 0 tree agrees.kept name vars env) nodes
    → new ≡ marks_of 0 tree (all_kept matched id agrees.kept) → Agrees event_of new tree (sights ++ sight_of e name vars env ∷ [])
agrees_after event_of id e place tree name vars env old new nodes matched sights agrees named only is =
    let are : matched ≡ new_nodes 0 tree agrees.kept name vars env = only ∙ ap (filter (newly_matches 0 tree agrees.kept name vars env)) named ∙ new_named 0 tree agrees.kept name vars env in
    record {
      kept = all_kept matched id agrees.kept;
      laid = is;
      firsts = firsts_after event_of id e place 0 tree agrees.kept (all_kept matched id agrees.kept) name vars env sights agrees.firsts
          (λ n low high. all_kept_at matched id agrees.kept n ∙ ap (λ ns. cond (listed n ns) (Some id) (agrees.kept n)) are);
    }

pub newly_after : (event_of : EventId → Option ℕ) (e : ℕ) (tree : Tree) (name : Bytes) (vars env : Bindings) (old : List Mark) (nodes matched : List ℕ) (sights : List Sight)
    → (agrees : Agrees event_of old tree sights) → nodes ≡ naming 0 tree name → matched ≡ filter (newly_matches 0 tree agrees.kept name vars env) nodes
    → length matched ≡ newly tree sights (sight_of e name vars env)
newly_after event_of e tree name vars env old nodes matched sights agrees named only =
    ap length (only ∙ ap (filter (newly_matches 0 tree agrees.kept name vars env)) named ∙ new_named 0 tree agrees.kept name vars env)
    ∙ newly_counted event_of 0 tree agrees.kept e name vars env sights agrees.firsts

pub occurs-append : (event : EventId) (xs ys : List EventId) → occurs event (xs ++ ys) ≡ occurs event xs + occurs event ys
occurs-append event [] ys = omega arith
occurs-append event (x ∷ xs) ys = by_case (x.key == event.key) (occurs-append event xs ys)
  where
    by_case : (b : Bool) → occurs event (xs ++ ys) ≡ occurs event xs + occurs event ys
        → cond b (occurs event (xs ++ ys) + 1) (occurs event (xs ++ ys)) ≡ cond b (occurs event xs + 1) (occurs event xs) + occurs event ys
    by_case true e = omega (arith, e)
    by_case false e = e

-- how often a leaf keeps an event after an offer
leaf_uses : (event id : EventId) (start : ℕ) (k : Option EventId) (m : Bool)
    → occurs event (option_to_list (cond (listed start (cond (is_some k) [] (cond m (start ∷ []) []))) (Some id) k)) ≡ occurs event (option_to_list k) + cond (id.key == event.key) (length (cond (is_some k) [] (cond m (start ∷ []) []))) 0
leaf_uses event id start (Some k) m = by_case (id.key == event.key) (occurs event (k ∷ []))
  where
    by_case : (b : Bool) (n : ℕ) → n ≡ n + cond b 0 0
    by_case true n = omega arith
    by_case false n = omega arith
leaf_uses event id start None true = rw (eq-eqb start start refl) (by_case (id.key == event.key))
  where
    by_case : (b : Bool) → cond b 1 0 ≡ 0 + cond b 1 0
    by_case true = refl
    by_case false = refl
leaf_uses event id start None false = by_case (id.key == event.key)
  where
    by_case : (b : Bool) → 0 ≡ 0 + cond b 0 0
    by_case true = refl
    by_case false = refl

two_uses : (b : Bool) (x y xs ys m n k : ℕ) → x ≡ xs + cond b m 0 → y ≡ ys + cond b n 0 → k ≡ m + n → x + y ≡ xs + ys + cond b k 0
two_uses true x y xs ys m n k p q r = omega (arith, p, q, r)
two_uses false x y xs ys m n k p q r = omega (arith, p, q, r)

-- each leaf that newly keeps an event is one use more of it, and of no other
pub uses_after : (event id : EventId) (start : ℕ) (tree : Tree) (kept after : Kept) (name : Bytes) (vars env : Bindings)
    → ((n : ℕ) → start ≤ n → n < start + size tree → after n ≡ cond (listed n (new_nodes start tree kept name vars env)) (Some id) (kept n))
    → occurs event (kept_of start tree after) ≡ occurs event (kept_of start tree kept) + cond (id.key == event.key) (length (new_nodes start tree kept name vars env)) 0
uses_after event id start (One leaf) kept after name vars env same =
    ap (λ o. occurs event (option_to_list o)) (same start (omega arith) (omega arith)) ∙ leaf_uses event id start (kept start) (matches leaf name vars env)
uses_after event id start (Both l r) kept after name vars env same =
    let m = start + size l in
    let fl = new_nodes start l kept name vars env in
    let fr = new_nodes m r kept name vars env in
    let left = uses_after event id start l kept after name vars env
    (λ n low high. same n low (omega arith) ∙ ap (λ b. cond b (Some id) (kept n)) (listed_left n fl fr (listed_under n m (m + size r) fr (new_from m r kept name vars env) high))) in
    let right = uses_after event id m r kept after name vars env
    (λ n low high. same n (omega arith) (omega arith) ∙ ap (λ b. cond b (Some id) (kept n)) (listed_right n fl fr (listed_over n start m fl (new_from start l kept name vars env) low))) in
    occurs-append event (kept_of start l after) (kept_of m r after)
    ∙ two_uses (id.key == event.key) _ _ _ _ (length fl) (length fr) (length (fl ++ fr)) left right (length-append fl fr)
    ∙ ap (λ n. n + cond (id.key == event.key) (length (fl ++ fr)) 0) (sym (occurs-append event (kept_of start l kept) (kept_of m r kept)))
uses_after event id start (Either l r) kept after name vars env same =
    let m = start + size l in
    let fl = new_nodes start l kept name vars env in
    let fr = new_nodes m r kept name vars env in
    let left = uses_after event id start l kept after name vars env
    (λ n low high. same n low (omega arith) ∙ ap (λ b. cond b (Some id) (kept n)) (listed_left n fl fr (listed_under n m (m + size r) fr (new_from m r kept name vars env) high))) in
    let right = uses_after event id m r kept after name vars env
    (λ n low high. same n (omega arith) (omega arith) ∙ ap (λ b. cond b (Some id) (kept n)) (listed_right n fl fr (listed_over n start m fl (new_from start l kept name vars env) low))) in
    occurs-append event (kept_of start l after) (kept_of m r after)
    ∙ two_uses (id.key == event.key) _ _ _ _ (length fl) (length fr) (length (fl ++ fr)) left right (length-append fl fr)
    ∙ ap (λ n. n + cond (id.key == event.key) (length (fl ++ fr)) 0) (sym (occurs-append event (kept_of start l kept) (kept_of m r kept)))

-- the same of marks
pub marks_use : (event_of : EventId → Option ℕ) (event id : EventId) (tree : Tree) (name : Bytes) (vars env : Bindings) (old new : List Mark) (nodes matched : List ℕ) (sights : List Sight)
    → (agrees : Agrees event_of old tree sights) → nodes ≡ naming 0 tree name → matched ≡ filter (newly_matches 0 tree agrees.kept name vars env) nodes
    → new ≡ marks_of 0 tree (all_kept matched id agrees.kept) → uses event new ≡ uses event old + cond (id.key == event.key) (length matched) 0
marks_use event_of event id tree name vars env old new nodes matched sights agrees named only is =
    let are : matched ≡ new_nodes 0 tree agrees.kept name vars env = only ∙ ap (filter (newly_matches 0 tree agrees.kept name vars env)) named ∙ new_named 0 tree agrees.kept name vars env in
    ap (uses event) is ∙ ap (occurs event) (kept_in_tree 0 tree (all_kept matched id agrees.kept))
    ∙ uses_after event id 0 tree agrees.kept (all_kept matched id agrees.kept) name vars env
    (λ n low high. all_kept_at matched id agrees.kept n ∙ ap (λ ns. cond (listed n ns) (Some id) (agrees.kept n)) are)
    ∙ ap (λ ns. occurs event (kept_of 0 tree agrees.kept) + cond (id.key == event.key) (length ns) 0) (sym are)
    ∙ ap (λ n. n + cond (id.key == event.key) (length matched) 0) (ap (occurs event) (sym (kept_in_tree 0 tree agrees.kept)) ∙ ap (uses event) (sym agrees.laid))
