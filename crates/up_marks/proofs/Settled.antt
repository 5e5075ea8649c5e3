-- Marks that are told node by node are those of the expression.
use Rattle.std.proofs.Common.{◌≡◌, ℕ, ◌+◌, ◌-◌, ◌<◌, ◌≤◌, ◌==◌, Bool, true, false, ◌&&◌, ◌||◌, List, Option, None, Some, is_some, cond, length, get_or, set, slice_get, refl, sym, ap, ◌∙◌, subst, arith, get_or-set_other, get_or-set_same}
use Rattle.std.proofs.Math.Bool.{beq}
use Rattle.std.specs.Prelude.{option_and_then}
use Rattle.std.proofs.lemmas.Bool.{eqb-true, eqb-false}
use Rattle.std.proofs.lemmas.List.{ext_get_or}
use Rattle.std.proofs.lemmas.Option.{slice_get-get_or, slice_get_within, get_or_from_slice_get}
use Rattle.up_expr.specs.Flat.{size, nodes_of}
use Rattle.up_expr.specs.Trees.{Tree, One, Both, Either}
use Rattle.up_expr.specs.declared.expr.Leaf.{Leaf}
use Rattle.up_expr.specs.declared.node.Node.{Node}
use Rattle.up_expr.specs.declared.node.Node.TheVariants as node
use Rattle.up_expr.proofs.Flattening.{length_nodes}
use Rattle.up_model.specs.declared.event_id.EventId.{EventId}
use Rattle.up_marks.specs.declared.mark.Mark.{Mark}
use Rattle.up_marks.specs.Marking.{Kept, truth, unset, marks_of, with_kept}
use Rattle.up_marks.specs.Ruling.{leaf_in, leaf_of}
use Rattle.up_marks.specs.Settling.{IsAbove, IsSettledBut, holds_by, joins, keeps_by, kept_at, true_at}
use Rattle.up_marks.proofs.Above.{not_above}
use Rattle.up_marks.proofs.Markings.{length-marks}
use Rattle.up_marks.proofs.Matched.{leaf_found}
use Rattle.up_marks.proofs.NameLemmas.{or_parts}
use Rattle.up_marks.proofs.Places.{Each, each_all, each_here, three_join, three_split}

-- this is the mark at a place
abbrev IsMark : List Mark → ℕ → Mark → Type 0
IsMark marks i mark = get_or marks i unset ≡ mark

-- the node at a place keeps what it should, and is marked as true if it is
abbrev pub IsRight : Kept → List Mark → ℕ → Node → Type 0
IsRight kept marks i its = (kept_at marks i ≡ keeps_by its (kept i)) × (true_at marks i ≡ holds_by its (kept_at marks i) marks)

-- flags that are found equal
pub same_flag : (a b : Bool) → beq a b ≡ true → a ≡ b
same_flag true true e = refl
same_flag true false e = absurd (cc)
same_flag false true e = absurd (cc)
same_flag false false e = refl

and_same : {a b x y : Bool} → a ≡ x → b ≡ y → (a && b) ≡ (x && y)
and_same p q = cc

or_same : {a b x y : Bool} → a ≡ x → b ≡ y → (a || b) ≡ (x || y)
or_same p q = cc

mark_is : (mark : Mark) (b : Bool) (k : Option EventId) → mark.holds ≡ b → mark.kept ≡ k → mark ≡ record { holds = b; kept = k }
mark_is mark b k p q = ap (λ h. record { holds = h; kept = mark.kept }) p ∙ ap (λ o. record { holds = b; kept = o }) q

-- a part's root
root_true : (start : ℕ) (tree : Tree) (kept : Kept) (marks : List Mark) → Each (IsMark marks) start (marks_of start tree kept) → true_at marks (start + size tree - 1) ≡ truth start tree kept
root_true start (One leaf) kept marks are =
    let e : start + 1 - 1 ≡ start = omega arith in
    ap (true_at marks) e ∙ ap (λ (m : Mark). m.holds) are.0
root_true start (Both l r) kept marks are =
    let e : start + size (Both l r) - 1 ≡ start + size l + size r = omega arith in
    let parts = three_split (IsMark marks) start (size l) (size r) (marks_of start l kept) (marks_of (start + size l) r kept) _ (length-marks start l kept) (length-marks (start + size l) r kept) are in
    ap (true_at marks) e ∙ ap (λ (m : Mark). m.holds) parts.2
root_true start (Either l r) kept marks are =
    let e : start + size (Either l r) - 1 ≡ start + size l + size r = omega arith in
    let parts = three_split (IsMark marks) start (size l) (size r) (marks_of start l kept) (marks_of (start + size l) r kept) _ (length-marks start l kept) (length-marks (start + size l) r kept) are in
    ap (true_at marks) e ∙ ap (λ (m : Mark). m.holds) parts.2

right_of : (start : ℕ) (tree : Tree) (kept : Kept) (marks : List Mark) → Each (IsMark marks) start (marks_of start tree kept) → Each (IsRight kept marks) start (nodes_of start tree)
right_of start (One leaf) kept marks are =
    let keeps : kept_at marks start ≡ kept start = ap (λ (m : Mark). m.kept) are.0 in
    ((keeps, ap (λ (m : Mark). m.holds) are.0 ∙ ap is_some (sym keeps)), tt)
right_of start (Both l r) kept marks are =
    let m = start + size l in
    let parts = three_split (IsMark marks) start (size l) (size r) (marks_of start l kept) (marks_of m r kept) _ (length-marks start l kept) (length-marks m r kept) are in
    three_join (IsRight kept marks) start (size l) (size r) (nodes_of start l) (nodes_of m r) _ (length_nodes start l) (length_nodes m r)
    (right_of start l kept marks parts.0) (right_of m r kept marks parts.1)
    (ap (λ (k : Mark). k.kept) parts.2, ap (λ (k : Mark). k.holds) parts.2 ∙ sym (and_same (root_true start l kept marks parts.0) (root_true m r kept marks parts.1)))
right_of start (Either l r) kept marks are =
    let m = start + size l in
    let parts = three_split (IsMark marks) start (size l) (size r) (marks_of start l kept) (marks_of m r kept) _ (length-marks start l kept) (length-marks m r kept) are in
    three_join (IsRight kept marks) start (size l) (size r) (nodes_of start l) (nodes_of m r) _ (length_nodes start l) (length_nodes m r)
    (right_of start l kept marks parts.0) (right_of m r kept marks parts.1)
    (ap (λ (k : Mark). k.kept) parts.2, ap (λ (k : Mark). k.holds) parts.2 ∙ sym (or_same (root_true start l kept marks parts.0) (root_true m r kept marks parts.1)))

laid_of : (start : ℕ) (tree : Tree) (kept : Kept) (marks : List Mark) → Each (IsRight kept marks) start (nodes_of start tree) → Each (IsMark marks) start (marks_of start tree kept)
laid_of start (One leaf) kept marks are = (mark_is (get_or marks start unset) (is_some (kept start)) (kept start) (are.0.1 ∙ ap is_some are.0.0) are.0.0, tt)
laid_of start (Both l r) kept marks are =
    let m = start + size l in
    let parts = three_split (IsRight kept marks) start (size l) (size r) (nodes_of start l) (nodes_of m r) _ (length_nodes start l) (length_nodes m r) are in
    let left = laid_of start l kept marks parts.0 in
    let right = laid_of m r kept marks parts.1 in
    three_join (IsMark marks) start (size l) (size r) (marks_of start l kept) (marks_of m r kept) _ (length-marks start l kept) (length-marks m r kept) left right
    (mark_is (get_or marks (m + size r) unset) (truth start l kept && truth m r kept) None (parts.2.1 ∙ and_same (root_true start l kept marks left) (root_true m r kept marks right)) parts.2.0)
laid_of start (Either l r) kept marks are =
    let m = start + size l in
    let parts = three_split (IsRight kept marks) start (size l) (size r) (nodes_of start l) (nodes_of m r) _ (length_nodes start l) (length_nodes m r) are in
    let left = laid_of start l kept marks parts.0 in
    let right = laid_of m r kept marks parts.1 in
    three_join (IsMark marks) start (size l) (size r) (marks_of start l kept) (marks_of m r kept) _ (length-marks start l kept) (length-marks m r kept) left right
    (mark_is (get_or marks (m + size r) unset) (truth start l kept || truth m r kept) None (parts.2.1 ∙ or_same (root_true start l kept marks left) (root_true m r kept marks right)) parts.2.0)

-- marks of an expression are right at each node
pub right_at : (nodes : List Node) (tree : Tree) (kept : Kept) (marks : List Mark) → nodes ≡ nodes_of 0 tree → marks ≡ marks_of 0 tree kept → (i : ℕ) (its : Node) → slice_get nodes i ≡ Some its → IsRight kept marks i its
right_at nodes tree kept marks flat is i its there =
    let are : Each (IsMark marks) 0 marks = each_all (IsMark marks) marks (λ k x here. get_or_from_slice_get marks k x unset here) in
    each_here (IsRight kept marks) (nodes_of 0 tree) i its (ap (λ ns. slice_get ns i) (sym flat) ∙ there)
    (right_of 0 tree kept marks (subst (λ ms. Each (IsMark marks) 0 ms) is are))

-- and marks that are right at each node are the expression's
pub all_right : (nodes : List Node) (tree : Tree) (kept : Kept) (marks : List Mark) → nodes ≡ nodes_of 0 tree → length marks ≡ length nodes
    → ((i : ℕ) (its : Node) → slice_get nodes i ≡ Some its → IsRight kept marks i its) → marks ≡ marks_of 0 tree kept
all_right nodes tree kept marks flat long right =
    let are = laid_of 0 tree kept marks (subst (λ ns. Each (IsRight kept marks) 0 ns) flat (each_all (IsRight kept marks) nodes right)) in
    let same : length marks ≡ length (marks_of 0 tree kept) = long ∙ ap length flat ∙ length_nodes 0 tree ∙ sym (length-marks 0 tree kept) in
    ext_get_or unset marks (marks_of 0 tree kept) same
    (λ i below. each_here (IsMark marks) (marks_of 0 tree kept) i (get_or (marks_of 0 tree kept) i unset) (slice_get-get_or (marks_of 0 tree kept) i unset (omega (arith, same))) are)

-- once the last one is right too, all are
pub settled_here : (nodes : List Node) (tree : Tree) (kept : Kept) (marks : List Mark) (p : ℕ) (here : Node) → nodes ≡ nodes_of 0 tree → length marks ≡ length nodes → slice_get nodes p ≡ Some here
    → true_at marks p ≡ holds_by here (kept_at marks p) marks → IsSettledBut p nodes kept marks → marks ≡ marks_of 0 tree kept
settled_here nodes tree kept marks p here flat long at true_if settled = all_right nodes tree kept marks flat long (λ i its there. (settled.keeps i its there, by_place i its there (i == p) refl))
  where
    by_place : (i : ℕ) (its : Node) → slice_get nodes i ≡ Some its → (b : Bool) → (i == p) ≡ b → true_at marks i ≡ holds_by its (kept_at marks i) marks
    by_place i its there true e =
        let same : i ≡ p = eqb-true i p e in
        let found : Some here ≡ Some its = sym at ∙ ap (slice_get nodes) (sym same) ∙ there in
        let one : here ≡ its = cc in
        ap (true_at marks) same ∙ true_if ∙ ap (λ n. holds_by n (kept_at marks p) marks) one ∙ ap (λ k. holds_by its (kept_at marks k) marks) (sym same)
    by_place i its there false e = settled.holds i its (eqb-false i p e) there

pub settled_past : (nodes : List Node) (tree : Tree) (kept : Kept) (marks : List Mark) (p : ℕ) → nodes ≡ nodes_of 0 tree → length marks ≡ length nodes → length nodes ≤ p
    → IsSettledBut p nodes kept marks → marks ≡ marks_of 0 tree kept
settled_past nodes tree kept marks p flat long past settled =
    all_right nodes tree kept marks flat long (λ i its there. (settled.keeps i its there, settled.holds i its (λ e. omega (arith, e, past, slice_get_within nodes i its there)) there))

true_apart : (marks : List Mark) (i p : ℕ) (mark : Mark) → (i == p) ≡ false → true_at (set marks p mark) i ≡ true_at marks i
true_apart marks i p mark apart = ap (λ (m : Mark). m.holds) (get_or-set_other marks p i mark unset (eqb-false i p apart))

kept_apart : (marks : List Mark) (i p : ℕ) (mark : Mark) → (i == p) ≡ false → kept_at (set marks p mark) i ≡ kept_at marks i
kept_apart marks i p mark apart = ap (λ (m : Mark). m.kept) (get_or-set_other marks p i mark unset (eqb-false i p apart))

-- a node that doesn't join a place has no part in its mark
holds_apart : (its : Node) (k : Option EventId) (marks : List Mark) (p : ℕ) (mark : Mark) → joins its p ≡ false → holds_by its k (set marks p mark) ≡ holds_by its k marks
holds_apart (node.Leaf leaf) k marks p mark apart = refl
holds_apart (node.And l r) k marks p mark apart =
    let parts = or_parts (l == p) (r == p) apart in and_same (true_apart marks l p mark parts.0) (true_apart marks r p mark parts.1)
holds_apart (node.Or l r) k marks p mark apart =
    let parts = or_parts (l == p) (r == p) apart in or_same (true_apart marks l p mark parts.0) (true_apart marks r p mark parts.1)

kept_same : (marks : List Mark) (i p : ℕ) (b : Bool) → p < length marks → kept_at (set marks p (record { holds = b; kept = kept_at marks p })) i ≡ kept_at marks i
kept_same marks i p b below = by_case (i == p) refl
  where
    by_case : (c : Bool) → (i == p) ≡ c → kept_at (set marks p (record { holds = b; kept = kept_at marks p })) i ≡ kept_at marks i
    by_case true e =
        let same : i ≡ p = eqb-true i p e in
        ap (kept_at (set marks p (record { holds = b; kept = kept_at marks p }))) same ∙ ap (λ (m : Mark). m.kept) (get_or-set_same marks p (record { holds = b; kept = kept_at marks p }) unset below) ∙ ap (kept_at marks) (sym same)
    by_case false e = kept_apart marks i p _ e

-- a node is marked as it should be: what is left is the one above it
pub settled_next : (nodes : List Node) (tree : Tree) (kept : Kept) (marks : List Mark) (p q : ℕ) (here : Node) (b : Bool) → nodes ≡ nodes_of 0 tree → length marks ≡ length nodes → slice_get nodes p ≡ Some here
    → b ≡ holds_by here (kept_at marks p) marks → IsAbove nodes p q → IsSettledBut p nodes kept marks → IsSettledBut q nodes kept (set marks p (record { holds = b; kept = kept_at marks p }))
settled_next nodes tree kept marks p q here b flat long at true_if above settled = record {
  keeps = λ i its there. kept_same marks i p b below ∙ settled.keeps i its there;
  holds = λ i its apart there. by_place i its there (not_above nodes tree p q i its flat above apart there) (i == p) refl;
}
  where
    below : p < length marks
    below = omega (arith, long, slice_get_within nodes p here at)

    new : List Mark
    new = set marks p (record { holds = b; kept = kept_at marks p })

    same_holds : (i : ℕ) (its : Node) → joins its p ≡ false → holds_by its (kept_at new i) new ≡ holds_by its (kept_at marks i) marks
    same_holds i its free = ap (λ k. holds_by its k new) (kept_same marks i p b below) ∙ holds_apart its (kept_at marks i) marks p _ free

    by_place : (i : ℕ) (its : Node) → slice_get nodes i ≡ Some its → joins its p ≡ false → (c : Bool) → (i == p) ≡ c → true_at new i ≡ holds_by its (kept_at new i) new
    by_place i its there free true e =
        let same : i ≡ p = eqb-true i p e in
        let found : Some here ≡ Some its = sym at ∙ ap (slice_get nodes) (sym same) ∙ there in
        let one : here ≡ its = cc in
        ap (true_at new) same ∙ ap (λ (m : Mark). m.holds) (get_or-set_same marks p (record { holds = b; kept = kept_at marks p }) unset below)
        ∙ true_if ∙ ap (λ n. holds_by n (kept_at marks p) marks) one ∙ ap (λ k. holds_by its (kept_at marks k) marks) (sym same) ∙ sym (same_holds i its free)
    by_place i its there free false e = true_apart marks i p _ e ∙ settled.holds i its (eqb-false i p e) there ∙ sym (same_holds i its free)

-- a leaf that keeps an event is all that is left
pub settled_from : (nodes : List Node) (tree : Tree) (kept : Kept) (marks : List Mark) (p : ℕ) (leaf : Leaf) (event : EventId) → nodes ≡ nodes_of 0 tree → marks ≡ marks_of 0 tree kept → p < length marks
    → slice_get nodes p ≡ Some (node.Leaf leaf) → IsSettledBut p nodes (with_kept p event kept) (set marks p (record { holds = true_at marks p; kept = Some event }))
settled_from nodes tree kept marks p leaf event flat is below at = record {
  keeps = λ i its there. keeps_place i its there (i == p) refl;
  holds = λ i its apart there. ap (λ (m : Mark). m.holds) (get_or-set_other marks p i _ unset apart) ∙ (right_at nodes tree kept marks flat is i its there).1 ∙ sym (same_holds i its apart);
}
  where
    new : List Mark
    new = set marks p (record { holds = true_at marks p; kept = Some event })

    same_true : (i : ℕ) → true_at new i ≡ true_at marks i
    same_true i = by_case (i == p) refl
      where
        by_case : (c : Bool) → (i == p) ≡ c → true_at new i ≡ true_at marks i
        by_case true e =
            let same : i ≡ p = eqb-true i p e in
            ap (true_at new) same ∙ ap (λ (m : Mark). m.holds) (get_or-set_same marks p (record { holds = true_at marks p; kept = Some event }) unset below) ∙ ap (true_at marks) (sym same)
        by_case false e = true_apart marks i p _ e

    same_sides : (its : Node) (k : Option EventId) → holds_by its k new ≡ holds_by its k marks
    same_sides (node.Leaf l) k = refl
    same_sides (node.And l r) k = and_same (same_true l) (same_true r)
    same_sides (node.Or l r) k = or_same (same_true l) (same_true r)

    same_holds : (i : ℕ) (its : Node) → (i ≡ p → ⊥) → holds_by its (kept_at new i) new ≡ holds_by its (kept_at marks i) marks
    same_holds i its apart = ap (λ k. holds_by its k new) (ap (λ (m : Mark). m.kept) (get_or-set_other marks p i _ unset apart)) ∙ same_sides its (kept_at marks i)

    keeps_place : (i : ℕ) (its : Node) → slice_get nodes i ≡ Some its → (c : Bool) → (i == p) ≡ c → kept_at new i ≡ keeps_by its (with_kept p event kept i)
    keeps_place i its there true e =
        let same : i ≡ p = eqb-true i p e in
        let found : Some (node.Leaf leaf) ≡ Some its = sym at ∙ ap (slice_get nodes) (sym same) ∙ there in
        let one : node.Leaf leaf ≡ its = cc in
        ap (kept_at new) same ∙ ap (λ (m : Mark). m.kept) (get_or-set_same marks p (record { holds = true_at marks p; kept = Some event }) unset below)
        ∙ ap (λ c. cond c (Some event) (kept i)) (sym e) ∙ ap (λ n. keeps_by n (with_kept p event kept i)) one
    keeps_place i its there false e =
        kept_apart marks i p _ e ∙ (right_at nodes tree kept marks flat is i its there).0 ∙ ap (λ c. keeps_by its (cond c (Some event) (kept i))) (sym e)

-- what is kept at a place where no leaf is changes no mark
pub kept_at_none : (tree : Tree) (kept : Kept) (marks : List Mark) (p : ℕ) (event : EventId) → None ≡ leaf_in (Some tree) p
    → marks ≡ marks_of 0 tree kept → marks ≡ marks_of 0 tree (with_kept p event kept)
kept_at_none tree kept marks p event none is =
    all_right (nodes_of 0 tree) tree (with_kept p event kept) marks refl (ap length is ∙ length-marks 0 tree kept ∙ sym (length_nodes 0 tree))
    (λ i its there. let was = right_at (nodes_of 0 tree) tree kept marks refl is i its there in (was.0 ∙ same i its there (i == p) refl, was.1))
  where
    none_kept : (its : Node) (k o : Option EventId) → None ≡ leaf_of its → keeps_by its k ≡ keeps_by its o
    none_kept (node.Leaf leaf) k o e = absurd (cc)
    none_kept (node.And l r) k o e = refl
    none_kept (node.Or l r) k o e = refl

    same : (i : ℕ) (its : Node) → slice_get (nodes_of 0 tree) i ≡ Some its → (c : Bool) → (i == p) ≡ c → keeps_by its (kept i) ≡ keeps_by its (with_kept p event kept i)
    same i its there true e =
        none_kept its (kept i) (with_kept p event kept i) (none ∙ ap (option_and_then leaf_of) (ap (slice_get (nodes_of 0 tree)) (sym (eqb-true i p e)) ∙ there))
    same i its there false e = ap (λ c. keeps_by its (cond c (Some event) (kept i))) (sym e)

-- a leaf's mark keeps what is kept at its place
pub leaf_keeps : (tree : Tree) (kept : Kept) (marks : List Mark) (p : ℕ) (leaf : Leaf) → Some leaf ≡ leaf_in (Some tree) p → marks ≡ marks_of 0 tree kept → kept_at marks p ≡ kept p
leaf_keeps tree kept marks p leaf found is = (right_at (nodes_of 0 tree) tree kept marks refl is p (node.Leaf leaf) (leaf_found tree p leaf found)).0
