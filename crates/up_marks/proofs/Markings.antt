-- The marks of an expression: how many there are, what its root has, and what they keep.
use Rattle.std.proofs.Common.{◌≡◌, ℕ, ◌+◌, ◌-◌, ◌<◌, ◌==◌, true, false, ◌&&◌, ◌||◌, List, [], ◌∷◌, ◌++◌, None, refl, sym, ap, ◌∙◌, length, take, drop, get_or, arith, length-append, append_assoc, replicate, zero, suc, eq-eqb}
use Rattle.std.proofs.lemmas.List.{length_push, get_or_at, take_at, drop_at, append-nil, take_more, take_all, drop_all, replicate-append-replicate}
use Rattle.up_expr.specs.Flat.{size}
use Rattle.up_expr.specs.Trees.{Tree, One, Both, Either}
use Rattle.up_model.specs.declared.event_id.EventId.{EventId}
use Rattle.up_marks.specs.declared.mark.Mark.{Mark}
use Rattle.std.specs.Option.{option_to_list}
use Rattle.up_expr.specs.Flat.{IsFlat}
use Rattle.up_expr.specs.declared.node.Node.{Node}
use Rattle.up_expr.proofs.Flattening.{length_nodes}
use Rattle.up_marks.specs.Marking.{Kept, truth, operator, unset, marks_of, with_kept, all_kept, kept_in, kept_of}

-- as many as nodes
pub length-marks : (start : ℕ) (tree : Tree) (kept : Kept) → length (marks_of start tree kept) ≡ size tree
length-marks start (One leaf) kept = refl
length-marks start (Both l r) kept =
    omega (arith, length_push (marks_of start l kept ++ marks_of (start + size l) r kept) (operator (truth start l kept && truth (start + size l) r kept)), length-append (marks_of start l kept) (marks_of (start + size l) r kept), length-marks start l kept, length-marks (start + size l) r kept)
length-marks start (Either l r) kept =
    omega (arith, length_push (marks_of start l kept ++ marks_of (start + size l) r kept) (operator (truth start l kept || truth (start + size l) r kept)), length-append (marks_of start l kept) (marks_of (start + size l) r kept), length-marks start l kept, length-marks (start + size l) r kept)

last_is : (below : List Mark) (root d : Mark) → get_or (below ++ root ∷ []) (length (below ++ root ∷ []) - 1) d ≡ root
last_is below root d = get_or_at below root [] d (length (below ++ root ∷ []) - 1) (omega (arith, length_push below root))

-- the last mark is the root's
root_of : (start : ℕ) (tree : Tree) (kept : Kept) (d : Mark) → (get_or (marks_of start tree kept) (length (marks_of start tree kept) - 1) d).holds ≡ truth start tree kept
root_of start (One leaf) kept d = refl
root_of start (Both l r) kept d = ap (λ (m : Mark). m.holds) (last_is (marks_of start l kept ++ marks_of (start + size l) r kept) (operator (truth start l kept && truth (start + size l) r kept)) d)
root_of start (Either l r) kept d = ap (λ (m : Mark). m.holds) (last_is (marks_of start l kept ++ marks_of (start + size l) r kept) (operator (truth start l kept || truth (start + size l) r kept)) d)

pub root_holds : (marks : List Mark) (d : Mark) (start : ℕ) (tree : Tree) (kept : Kept) → marks ≡ marks_of start tree kept → (get_or marks (length marks - 1) d).holds ≡ truth start tree kept
root_holds marks d start tree kept is = rw is (root_of start tree kept d)

-- the marks of both sides apart
pub front_is : (start : ℕ) (l r : Tree) (kept : Kept) (below front : List Mark) (n : ℕ) → below ≡ marks_of start l kept ++ marks_of (start + size l) r kept
    → n ≡ size l → front ≡ take n below → front ≡ marks_of start l kept
front_is start l r kept below front n is long taken =
    taken ∙ ap (λ ms. take n ms) is ∙ take_at (marks_of start l kept) (marks_of (start + size l) r kept) n (length-marks start l kept ∙ sym long)

pub back_is : (start : ℕ) (l r : Tree) (kept : Kept) (below back : List Mark) (n : ℕ) → below ≡ marks_of start l kept ++ marks_of (start + size l) r kept
    → n ≡ size l → back ≡ drop n below → back ≡ marks_of (start + size l) r kept
back_is start l r kept below back n is long left =
    left ∙ ap (λ ms. drop n ms) is ∙ drop_at (marks_of start l kept) (marks_of (start + size l) r kept) n (length-marks start l kept ∙ sym long)

kept_in-append : (xs ys : List Mark) → kept_in (xs ++ ys) ≡ kept_in xs ++ kept_in ys
kept_in-append [] ys = refl
kept_in-append (x ∷ xs) ys = ap (λ es. option_to_list x.kept ++ es) (kept_in-append xs ys) ∙ sym (append_assoc (option_to_list x.kept) (kept_in xs) (kept_in ys))

-- what one mark more keeps
pub kept_more : (old so_far next : List EventId) (marks : List Mark) (i : ℕ) (d : Mark) → i < length marks → so_far ≡ old ++ kept_in (take i marks)
    → next ≡ so_far ++ option_to_list (get_or marks i d).kept → next ≡ old ++ kept_in (take (i + 1) marks)
kept_more old so_far next marks i d below is one =
    one ∙ ap (λ es. es ++ option_to_list (get_or marks i d).kept) is
    ∙ append_assoc old (kept_in (take i marks)) (option_to_list (get_or marks i d).kept)
    ∙ ap (λ es. old ++ es) (ap (λ es. kept_in (take i marks) ++ es) (sym (append-nil (option_to_list (get_or marks i d).kept)))
    ∙ sym (kept_in-append (take i marks) (get_or marks i d ∷ [])) ∙ ap kept_in (sym (take_more marks i d below)))

-- what the marks of a tree keep
pub kept_in_tree : (start : ℕ) (tree : Tree) (kept : Kept) → kept_in (marks_of start tree kept) ≡ kept_of start tree kept
kept_in_tree start (One leaf) kept = append-nil (option_to_list (kept start))
kept_in_tree start (Both l r) kept =
    let front = marks_of start l kept in
    let back = marks_of (start + size l) r kept in
    kept_in-append (front ++ back) (operator (truth start l kept && truth (start + size l) r kept) ∷ []) ∙ append-nil (kept_in (front ++ back))
    ∙ kept_in-append front back ∙ rw (kept_in_tree start l kept, kept_in_tree (start + size l) r kept) refl
kept_in_tree start (Either l r) kept =
    let front = marks_of start l kept in
    let back = marks_of (start + size l) r kept in
    kept_in-append (front ++ back) (operator (truth start l kept || truth (start + size l) r kept) ∷ []) ∙ append-nil (kept_in (front ++ back))
    ∙ kept_in-append front back ∙ rw (kept_in_tree start l kept, kept_in_tree (start + size l) r kept) refl

truth_none : (start : ℕ) (tree : Tree) → truth start tree (λ n. None) ≡ false
truth_none start (One leaf) = refl
truth_none start (Both l r) = rw (truth_none start l) refl
truth_none start (Either l r) = rw (truth_none start l, truth_none (start + size l) r) refl

blanks_three : (a b c : ℕ) → replicate (a + b + 1) unset ≡ replicate a unset ++ replicate b unset ++ unset ∷ []
blanks_three a b c = sym (replicate-append-replicate (a + b) 1 unset) ∙ ap (λ ms. ms ++ unset ∷ []) (sym (replicate-append-replicate a b unset))

-- the marks of a tree that keeps nothing
pub blanks_of : (start : ℕ) (tree : Tree) → replicate (size tree) unset ≡ marks_of start tree (λ n. None)
blanks_of start (One leaf) = refl
blanks_of start (Both l r) =
    blanks_three (size l) (size r) 0 ∙ rw (truth_none start l, blanks_of start l, blanks_of (start + size l) r) refl
blanks_of start (Either l r) =
    blanks_three (size l) (size r) 0 ∙ rw (truth_none start l, truth_none (start + size l) r, blanks_of start l, blanks_of (start + size l) r) refl

pub same_test : (a b x y : ℕ) → a ≡ x → b ≡ y → (a == b) ≡ (x == y)
same_test a b x y p q = rw (p, q) refl

pub flat_size : (nodes : List Node) (tree : Tree) → IsFlat nodes tree → length nodes ≡ size tree
flat_size nodes tree flat = ap length flat.laid ∙ length_nodes 0 tree

-- a vector whose slice was written whole
pub written : {X : Type 0} (len : ℕ) (new old : List X) → length new ≡ length old → length old ≡ len → take len (new ++ drop (length new) old) ≡ new
written len new old same long =
    ap (λ xs. take len (new ++ xs)) (drop_all (length new) old (omega arith)) ∙ ap (λ xs. take len xs) (append-nil new) ∙ take_all len new (omega arith)

pub all_kept_push : (ns : List ℕ) (n : ℕ) (event : EventId) (kept : Kept) → all_kept (ns ++ n ∷ []) event kept ≡ with_kept n event (all_kept ns event kept)
all_kept_push [] n event kept = refl
all_kept_push (m ∷ ns) n event kept = all_kept_push ns n event (with_kept m event kept)

-- the places so far and one more
pub all_kept_more : (nodes : List ℕ) (i d : ℕ) (event : EventId) (kept : Kept) → i < length nodes → all_kept (take (i + 1) nodes) event kept ≡ with_kept (get_or nodes i d) event (all_kept (take i nodes) event kept)
all_kept_more nodes i d event kept below =
    ap (λ ns. all_kept ns event kept) (take_more nodes i d below) ∙ all_kept_push (take i nodes) (get_or nodes i d) event kept

-- unset marks keep nothing
pub kept_blank : (n : ℕ) → kept_in (replicate n unset) ≡ []
kept_blank zero = refl
kept_blank (suc n) = kept_blank n

-- marks of a tree have its length
pub marks_fit : (marks : List Mark) (start : ℕ) (tree : Tree) (kept : Kept) → marks ≡ marks_of start tree kept → (length marks == size tree) ≡ true
marks_fit marks start tree kept is = eq-eqb (length marks) (size tree) (ap length is ∙ length-marks start tree kept)
