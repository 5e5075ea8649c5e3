-- Whether an event is new to the leaf at a place, told by the node there.
use Rattle.std.proofs.Common.{◌≡◌, ℕ, ◌+◌, ◌<◌, ◌≤◌, nat_lt, Bool, true, false, Option, None, Some, is_some, if◌then◌else◌, length, slice_get, refl, sym, ap, ◌∙◌, arith, eq-eqb}
use Rattle.std.specs.Prelude.{option_and_then}
use Rattle.std.proofs.lemmas.Bool.{ne_eqb, lt-ltb, le-ltb, ltb-true, ltb-false}
use Rattle.std.proofs.lemmas.Option.{slice_get-get_or, slice_get_within}
use Rattle.up_expr.specs.declared.expr.Leaf.{Leaf}
use Rattle.up_value.specs.Values.{Bytes, Bindings}
use Rattle.up_expr.specs.Flat.{size, nodes_of}
use Rattle.up_expr.specs.Matching.{matches}
use Rattle.up_expr.specs.Trees.{Tree, One, Both, Either}
use Rattle.up_expr.specs.declared.node.Node.{Node}
use Rattle.up_expr.specs.declared.node.Node.TheVariants as node
use Rattle.up_expr.proofs.Flattening.{length_nodes}
use Rattle.up_model.specs.declared.event_id.EventId.{EventId}
use Rattle.up_marks.specs.Marking.{Kept, newly_matches}
use Rattle.up_marks.specs.Ruling.{leaf_in, leaf_of}
use Rattle.up_marks.proofs.Places.{Each, each_here, each_map, three_join}

-- whether an event is new to a node, by what is kept at its place
abbrev pub new_by : Bytes → Bindings → Bindings → Option EventId → Node → Bool
new_by name vars env kept (node.Leaf leaf) = if is_some kept then false else matches leaf name vars env
new_by name vars env kept (node.And left right) = false
new_by name vars env kept (node.Or left right) = false

pub newly_past : (start : ℕ) (tree : Tree) (kept : Kept) (name : Bytes) (vars env : Bindings) (i : ℕ) → start + size tree ≤ i → newly_matches start tree kept name vars env i ≡ false
newly_past start (One leaf) kept name vars env i past = rw (ne_eqb i start (λ e. omega (arith, e, past))) refl
newly_past start (Both l r) kept name vars env i past =
    rw (le-ltb i (start + size l) (omega (arith, past))) (newly_past (start + size l) r kept name vars env i (omega (arith, past)))
newly_past start (Either l r) kept name vars env i past =
    rw (le-ltb i (start + size l) (omega (arith, past))) (newly_past (start + size l) r kept name vars env i (omega (arith, past)))

-- a node says whether an event is new to it
abbrev Says : ℕ → Tree → Kept → Bytes → Bindings → Bindings → ℕ → Node → Type 0
Says start tree kept name vars env i its = newly_matches start tree kept name vars env i ≡ new_by name vars env (kept i) its

newly_in : (start : ℕ) (tree : Tree) (kept : Kept) (name : Bytes) (vars env : Bindings) → Each (Says start tree kept name vars env) start (nodes_of start tree)
newly_in start (One leaf) kept name vars env = (rw (eq-eqb start start refl) refl, tt)
newly_in start (Both l r) kept name vars env =
    let m = start + size l in
    three_join (Says start (Both l r) kept name vars env) start (size l) (size r) (nodes_of start l) (nodes_of m r) _ (length_nodes start l) (length_nodes m r)
    (each_map (Says start l kept name vars env) (Says start (Both l r) kept name vars env) start (nodes_of start l)
    (λ i its low high was. rw (lt-ltb i (start + size l) (omega (arith, high, length_nodes start l))) was) (newly_in start l kept name vars env))
    (each_map (Says m r kept name vars env) (Says start (Both l r) kept name vars env) m (nodes_of m r)
    (λ i its low high was. rw (le-ltb i (start + size l) low) was) (newly_in m r kept name vars env))
    (rw (le-ltb (m + size r) (start + size l) (omega arith)) (newly_past m r kept name vars env (m + size r) (omega arith)))
newly_in start (Either l r) kept name vars env =
    let m = start + size l in
    three_join (Says start (Either l r) kept name vars env) start (size l) (size r) (nodes_of start l) (nodes_of m r) _ (length_nodes start l) (length_nodes m r)
    (each_map (Says start l kept name vars env) (Says start (Either l r) kept name vars env) start (nodes_of start l)
    (λ i its low high was. rw (lt-ltb i (start + size l) (omega (arith, high, length_nodes start l))) was) (newly_in start l kept name vars env))
    (each_map (Says m r kept name vars env) (Says start (Either l r) kept name vars env) m (nodes_of m r)
    (λ i its low high was. rw (le-ltb i (start + size l) low) was) (newly_in m r kept name vars env))
    (rw (le-ltb (m + size r) (start + size l) (omega arith)) (newly_past m r kept name vars env (m + size r) (omega arith)))

leaf_is : (leaf : Leaf) (its : Option Node) → Some leaf ≡ option_and_then leaf_of its → its ≡ Some (node.Leaf leaf)
leaf_is leaf None e = absurd (cc)
leaf_is leaf (Some (node.Leaf other)) e = let same : leaf ≡ other = cc in ap (λ l. Some (node.Leaf l)) (sym same)
leaf_is leaf (Some (node.And l r)) e = absurd (cc)
leaf_is leaf (Some (node.Or l r)) e = absurd (cc)

-- the node of a leaf, which is one of the tree's
pub leaf_found : (tree : Tree) (i : ℕ) (leaf : Leaf) → Some leaf ≡ leaf_in (Some tree) i → slice_get (nodes_of 0 tree) i ≡ Some (node.Leaf leaf)
leaf_found tree i leaf e = leaf_is leaf (slice_get (nodes_of 0 tree) i) e

pub leaf_within : (tree : Tree) (i : ℕ) (leaf : Leaf) → Some leaf ≡ leaf_in (Some tree) i → i < size tree
leaf_within tree i leaf e = omega (arith, slice_get_within (nodes_of 0 tree) i (node.Leaf leaf) (leaf_found tree i leaf e), length_nodes 0 tree)

-- an event is new to a leaf that keeps none and matches it
pub newly_leaf : (tree : Tree) (kept : Kept) (name : Bytes) (vars env : Bindings) (i : ℕ) (leaf : Leaf) → Some leaf ≡ leaf_in (Some tree) i
    → newly_matches 0 tree kept name vars env i ≡ (if is_some (kept i) then false else matches leaf name vars env)
newly_leaf tree kept name vars env i leaf e =
    each_here (Says 0 tree kept name vars env) (nodes_of 0 tree) i (node.Leaf leaf) (leaf_found tree i leaf e) (newly_in 0 tree kept name vars env)

-- and to nothing else
pub newly_none : (tree : Tree) (kept : Kept) (name : Bytes) (vars env : Bindings) (i : ℕ) → None ≡ leaf_in (Some tree) i → newly_matches 0 tree kept name vars env i ≡ false
newly_none tree kept name vars env i none = by_end (nat_lt i (length (nodes_of 0 tree))) refl
  where
    by_node : (its : Node) → slice_get (nodes_of 0 tree) i ≡ Some its → None ≡ leaf_of its → newly_matches 0 tree kept name vars env i ≡ false
    by_node (node.Leaf leaf) there e = absurd (cc)
    by_node (node.And l r) there e = each_here (Says 0 tree kept name vars env) (nodes_of 0 tree) i (node.And l r) there (newly_in 0 tree kept name vars env)
    by_node (node.Or l r) there e = each_here (Says 0 tree kept name vars env) (nodes_of 0 tree) i (node.Or l r) there (newly_in 0 tree kept name vars env)

    by_end : (b : Bool) → nat_lt i (length (nodes_of 0 tree)) ≡ b → newly_matches 0 tree kept name vars env i ≡ false
    by_end true e =
        let d : Node = node.And 0 0 in
        let there = slice_get-get_or (nodes_of 0 tree) i d (ltb-true i (length (nodes_of 0 tree)) e) in
        by_node _ there (none ∙ ap (option_and_then leaf_of) there)
    by_end false e = newly_past 0 tree kept name vars env i (omega (arith, ltb-false i (length (nodes_of 0 tree)) e, length_nodes 0 tree))
