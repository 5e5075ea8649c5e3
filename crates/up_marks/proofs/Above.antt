-- Each node of an expression but its root has one above it, which stands later.
use Rattle.std.proofs.Common.{◌≡◌, ℕ, ◌+◌, ◌-◌, ◌<◌, ◌≤◌, ◌==◌, nat_lt, Bool, true, false, ◌||◌, ◌⊎◌, inl, inr, List, Some, cond, length, get_or, slice_get, refl, sym, ap, ◌∙◌, arith, eq-eqb}
use Rattle.std.proofs.lemmas.Bool.{eqb-true, ne_eqb, lt-ltb, le-ltb, ltb-true, ltb-false}
use Rattle.std.proofs.lemmas.Option.{slice_get-get_or, slice_get_read, slice_get_within}
use Rattle.up_expr.specs.Flat.{size, nodes_of}
use Rattle.up_expr.specs.Trees.{Tree, One, Both, Either}
use Rattle.up_expr.specs.declared.node.Node.{Node}
use Rattle.up_expr.proofs.Flattening.{length_nodes, some_nodes}
use Rattle.up_marks.specs.Settling.{IsAbove, joins}
use Rattle.up_marks.proofs.Places.{Each, each_here, each_map, three_join}

-- the place of the node above one: that of the root for the roots of both sides, where these end, and else what its side says
abbrev above_by : (p middle last left right : ℕ) → ℕ
above_by p middle last left right = cond (p + 1 == middle) last (cond (p + 1 == last) last (cond (nat_lt p middle) left right))

abbrev above_of : ℕ → Tree → ℕ → ℕ
above_of start (One leaf) p = 0
above_of start (Both l r) p = above_by p (start + size l) (start + size l + size r) (above_of start l p) (above_of (start + size l) r p)
above_of start (Either l r) p = above_by p (start + size l) (start + size l + size r) (above_of start l p) (above_of (start + size l) r p)

by_left : (p middle last left right : ℕ) → p + 1 < middle → middle ≤ last → above_by p middle last left right ≡ left
by_left p middle last left right less within =
    rw (ne_eqb (p + 1) middle (λ e. omega (arith, e, less)), ne_eqb (p + 1) last (λ e. omega (arith, e, less, within)), lt-ltb p middle (omega (arith, less))) refl

by_right : (p middle last left right : ℕ) → middle ≤ p → p + 1 < last → above_by p middle last left right ≡ right
by_right p middle last left right more less =
    rw (ne_eqb (p + 1) middle (λ e. omega (arith, e, more)), ne_eqb (p + 1) last (λ e. omega (arith, e, less)), le-ltb p middle more) refl

by_root : (p middle last left right : ℕ) → (p + 1 ≡ middle) ⊎ (p + 1 ≡ last) → above_by p middle last left right ≡ last
by_root p middle last left right (inl e) = rw (eq-eqb (p + 1) middle e) refl
by_root p middle last left right (inr e) = rw (eq-eqb (p + 1) last e) (either (p + 1 == middle))
  where
    either : (b : Bool) → cond b last last ≡ last
    either true = refl
    either false = refl

-- a node that joins a place is the one above it
abbrev IsJoined : ℕ → Tree → ℕ → ℕ → Node → Type 0
IsJoined start tree p i its = joins its p ≡ true → (i ≡ above_of start tree p) × (start ≤ p) × (p < i)

or_true : (a b : Bool) → (a || b) ≡ true → (a ≡ true) ⊎ (b ≡ true)
or_true true b e = inl refl
or_true false b e = inr e

-- the root joins the roots of both sides
root_joins : (start : ℕ) (l r : Tree) (p left right : ℕ) → (start + size l - 1 == p || start + size l + size r - 1 == p) ≡ true
    → (start + size l + size r ≡ above_by p (start + size l) (start + size l + size r) left right) × (start ≤ p) × (p < start + size l + size r)
root_joins start l r p left right e = by_case (or_true (start + size l - 1 == p) (start + size l + size r - 1 == p) e)
  where
    by_case : ((start + size l - 1 == p) ≡ true) ⊎ ((start + size l + size r - 1 == p) ≡ true)
        → (start + size l + size r ≡ above_by p (start + size l) (start + size l + size r) left right) × (start ≤ p) × (p < start + size l + size r)
    by_case (inl is) =
        let at : start + size l - 1 ≡ p = eqb-true (start + size l - 1) p is in
        (sym (by_root p (start + size l) (start + size l + size r) left right (inl (omega (arith, at, some_nodes l)))), omega (arith, at, some_nodes l), omega (arith, at, some_nodes l))
    by_case (inr is) =
        let at : start + size l + size r - 1 ≡ p = eqb-true (start + size l + size r - 1) p is in
        (sym (by_root p (start + size l) (start + size l + size r) left right (inr (omega (arith, at, some_nodes r)))), omega (arith, at, some_nodes l, some_nodes r), omega (arith, at, some_nodes r))

joined_in : (start : ℕ) (tree : Tree) (p : ℕ) → Each (IsJoined start tree p) start (nodes_of start tree)
joined_in start (One leaf) p = ((λ e. absurd (cc)), tt)
joined_in start (Both l r) p =
    let m = start + size l in
    three_join (IsJoined start (Both l r) p) start (size l) (size r) (nodes_of start l) (nodes_of m r) _ (length_nodes start l) (length_nodes m r)
    (each_map (IsJoined start l p) (IsJoined start (Both l r) p) start (nodes_of start l)
    (λ i its low high was e. let are = was e in (are.0 ∙ sym (by_left p m (m + size r) (above_of start l p) (above_of m r p) (omega (arith, are.2, high, length_nodes start l)) (omega arith)), are.1, are.2))
    (joined_in start l p))
    (each_map (IsJoined m r p) (IsJoined start (Both l r) p) m (nodes_of m r)
    (λ i its low high was e. let are = was e in (are.0 ∙ sym (by_right p m (m + size r) (above_of start l p) (above_of m r p) are.1 (omega (arith, are.2, high, length_nodes m r))), omega (arith, are.1), are.2))
    (joined_in m r p))
    (root_joins start l r p (above_of start l p) (above_of m r p))
joined_in start (Either l r) p =
    let m = start + size l in
    three_join (IsJoined start (Either l r) p) start (size l) (size r) (nodes_of start l) (nodes_of m r) _ (length_nodes start l) (length_nodes m r)
    (each_map (IsJoined start l p) (IsJoined start (Either l r) p) start (nodes_of start l)
    (λ i its low high was e. let are = was e in (are.0 ∙ sym (by_left p m (m + size r) (above_of start l p) (above_of m r p) (omega (arith, are.2, high, length_nodes start l)) (omega arith)), are.1, are.2))
    (joined_in start l p))
    (each_map (IsJoined m r p) (IsJoined start (Either l r) p) m (nodes_of m r)
    (λ i its low high was e. let are = was e in (are.0 ∙ sym (by_right p m (m + size r) (above_of start l p) (above_of m r p) are.1 (omega (arith, are.2, high, length_nodes m r))), omega (arith, are.1), are.2))
    (joined_in m r p))
    (root_joins start l r p (above_of start l p) (above_of m r p))

joined_at : (nodes : List Node) (tree : Tree) (p i : ℕ) (its : Node) → nodes ≡ nodes_of 0 tree → slice_get nodes i ≡ Some its → joins its p ≡ true → (i ≡ above_of 0 tree p) × (0 ≤ p) × (p < i)
joined_at nodes tree p i its flat there joined =
    each_here (IsJoined 0 tree p) (nodes_of 0 tree) i its (ap (λ ns. slice_get ns i) (sym flat) ∙ there) (joined_in 0 tree p) joined

-- no node joins a place but the one above it
pub not_above : (nodes : List Node) (tree : Tree) (p q i : ℕ) (its : Node) → nodes ≡ nodes_of 0 tree → IsAbove nodes p q → (i ≡ q → ⊥) → slice_get nodes i ≡ Some its → joins its p ≡ false
not_above nodes tree p q i its flat above apart there = by_case (joins its p) refl
  where
    by_end : (b : Bool) → nat_lt q (length nodes) ≡ b → joins its p ≡ true → joins its p ≡ false
    by_end true e joined =
        let found = slice_get-get_or nodes q its (ltb-true q (length nodes) e) in
        let first = joined_at nodes tree p i its flat there joined in
        let second = joined_at nodes tree p q _ flat found (above.joined _ found) in
        absurd (apart (first.0 ∙ sym second.0))
    by_end false e joined = above.none (ltb-false q (length nodes) e) i its (joined_at nodes tree p i its flat there joined).2 there

    by_case : (b : Bool) → joins its p ≡ b → joins its p ≡ false
    by_case true e = by_end (nat_lt q (length nodes)) refl e
    by_case false e = e

-- none of the nodes between two places joins the first
abbrev pub NoneUpTo : List Node → (place end : ℕ) → Type 0
NoneUpTo nodes place end = (i : ℕ) (its : Node) → place < i → i < end → slice_get nodes i ≡ Some its → joins its place ≡ false

pub none_more : (nodes : List Node) (place above : ℕ) (node : Node) → above < length nodes → node ≡ get_or nodes above node → joins node place ≡ false → NoneUpTo nodes place above → NoneUpTo nodes place (above + 1)
none_more nodes place above node below read free none i its later less there = by_case (nat_lt i above) refl
  where
    by_case : (b : Bool) → nat_lt i above ≡ b → joins its place ≡ false
    by_case true e = none i its later (ltb-true i above e) there
    by_case false e =
        let same : i ≡ above = omega (arith, less, ltb-false i above e) in
        let found : Some node ≡ Some its = sym (slice_get_read nodes (length nodes) above node refl below read) ∙ ap (slice_get nodes) (sym same) ∙ there in
        let one : node ≡ its = cc in
        ap (λ n. joins n place) (sym one) ∙ free

pub found_above : (nodes : List Node) (place above : ℕ) (node : Node) → place < above → above < length nodes → node ≡ get_or nodes above node → joins node place ≡ true → IsAbove nodes place above
found_above nodes place above node later below read is = record {
  later = later;
  joined = λ its there.
      (let found : Some node ≡ Some its = sym (slice_get_read nodes (length nodes) above node refl below read) ∙ there in
      let one : node ≡ its = cc in
      ap (λ n. joins n place) (sym one) ∙ is);
  none = λ past i its after there. absurd (omega (arith, past, below));
}

pub none_above : (nodes : List Node) (place above : ℕ) → place < above → length nodes ≤ above → NoneUpTo nodes place above → IsAbove nodes place above
none_above nodes place above later past none = record {
  later = later;
  joined = λ its there. absurd (omega (arith, past, slice_get_within nodes above its there));
  none = λ end i its after there. none i its after (omega (arith, past, slice_get_within nodes i its there)) there;
}
