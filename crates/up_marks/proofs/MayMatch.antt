-- The leaves of an expression that name an event tell whether that may match it.
use Rattle.std.proofs.Common.{◌≡◌, ℕ, suc, ◌+◌, ◌-◌, Bool, true, false, not, ◌||◌, List, [], ◌∷◌, ◌++◌, length, map, Option, None, Some, slice_get, if◌then◌else◌, refl, sym, ◌∙◌, ap, arith, append_assoc, length-append}
use Rattle.std.specs.Prelude.{option_and_then}
use Rattle.std.specs.List.{list_any}
use Rattle.std.specs.Str.{bytes_eq}
use Rattle.std.proofs.lemmas.List.{append-nil}
use Rattle.up_expr.specs.declared.node.Node.{Node}
use Rattle.up_expr.specs.declared.node.Node.TheVariants as node
use Rattle.up_expr.specs.Flat.{size, nodes_of}
use Rattle.up_expr.specs.Trees.{Tree, One, Both, Either}
use Rattle.up_expr.proofs.Flattening.{length_nodes}
use Rattle.up_image.specs.declared.index.Place.{Place}
use Rattle.up_model.specs.declared.event.Event.{Event}
use Rattle.up_marks.specs.Agreeing.{naming}
use Rattle.up_marks.specs.Naming.{naming_in}
use Rattle.up_marks.specs.Ruling.{one_fails, may_match, may_match_in, nodes_in, leaf_of, leaf_in, admits_by}

-- the leaves of a tree that name an event, by their places among its nodes
get-past : {X : Type 0} (before xs : List X) (n i : ℕ) → n ≡ length before + i → slice_get (before ++ xs) n ≡ slice_get xs i
get-past [] xs n i is =
    let same : n ≡ i = omega (arith, is) in
    ap (slice_get xs) same
get-past (x ∷ before) xs n i is =
    let m : n ≡ suc (length before + i) = omega (arith, is) in
    ap (slice_get (x ∷ before ++ xs)) m ∙ get-past before xs (length before + i) i refl

pub any-append : {X : Type 0} (p : X → Bool) (xs ys : List X) → list_any p (xs ++ ys) ≡ (list_any p xs || list_any p ys)
any-append p [] ys = refl
any-append p (x ∷ xs) ys = by_case (p x) (any-append p xs ys)
  where
    by_case : (b : Bool) → list_any p (xs ++ ys) ≡ (list_any p xs || list_any p ys) → (b || list_any p (xs ++ ys)) ≡ ((b || list_any p xs) || list_any p ys)
    by_case true is = refl
    by_case false is = is

-- whether the leaf at a place of these nodes may match an event
abbrev pub admits_in : Event → List Node → ℕ → Bool
admits_in event nodes at = admits_by event (option_and_then leaf_of (slice_get nodes at))

split-left : (before left right after : List Node) (last : Node) → before ++ (((left ++ right) ++ last ∷ []) ++ after) ≡ before ++ (left ++ (right ++ (last ∷ after)))
split-left before left right after last =
    ap (λ xs. before ++ xs) (append_assoc (left ++ right) (last ∷ []) after ∙ append_assoc left right (last ∷ after))

split-right : (before left right after : List Node) (last : Node) → before ++ (((left ++ right) ++ last ∷ []) ++ after) ≡ (before ++ left) ++ (right ++ (last ∷ after))
split-right before left right after last = split-left before left right after last ∙ sym (append_assoc before left (right ++ (last ∷ after)))

side-count : (before : List Node) (start : ℕ) (left : Tree) → length before ≡ start → length (before ++ nodes_of start left) ≡ start + size left
side-count before start left count = omega (arith, length-append before (nodes_of start left), length_nodes start left, count)

both-any : (p : ℕ → Bool) (xs ys : List ℕ) (a b : Bool) → list_any p xs ≡ a → list_any p ys ≡ b → list_any p (xs ++ ys) ≡ (a || b)
both-any p xs ys a b first other = any-append p xs ys ∙ ap (λ (r : Bool). r || list_any p ys) first ∙ ap (λ (r : Bool). a || r) other

or-false : (b : Bool) → (b || false) ≡ b
or-false true = refl
or-false false = refl

any-naming : (event : Event) (nodes before after : List Node) (start : ℕ) (tree : Tree) → length before ≡ start → nodes ≡ before ++ (nodes_of start tree ++ after)
    → list_any (admits_in event nodes) (naming start tree event.name) ≡ may_match tree event.name event.vars
any-naming event nodes before after start (One leaf) count is = by_case (bytes_eq event.name leaf.event) refl
  where
    here : slice_get nodes start ≡ Some (node.Leaf leaf)
    here = ap (λ xs. slice_get xs start) is ∙ get-past before (node.Leaf leaf ∷ after) start 0 (omega (arith, count))

    by_case : (b : Bool) → bytes_eq event.name leaf.event ≡ b → list_any (admits_in event nodes) (if b then start ∷ [] else []) ≡ not (if b then one_fails event.vars 0 leaf.values else true)
    by_case true named_ =
        or-false (admits_in event nodes start) ∙ ap (λ o. admits_by event (option_and_then leaf_of o)) here
        ∙ ap (λ (b : Bool). not (if b then one_fails event.vars 0 leaf.values else true)) named_
    by_case false named_ = refl
any-naming event nodes before after start (Both left right) count is =
    let last = node.And (start + size left - 1) (start + size left + size right - 1) in
    let back = nodes_of (start + size left) right in
    let laid : nodes ≡ before ++ (((nodes_of start left ++ back) ++ last ∷ []) ++ after) = is in
    both-any (admits_in event nodes) (naming start left event.name) (naming (start + size left) right event.name) (may_match left event.name event.vars) (may_match right event.name event.vars)
    (any-naming event nodes before (back ++ (last ∷ after)) start left count (laid ∙ split-left before (nodes_of start left) back after last))
    (any-naming event nodes (before ++ nodes_of start left) (last ∷ after) (start + size left) right (side-count before start left count) (laid ∙ split-right before (nodes_of start left) back after last))
any-naming event nodes before after start (Either left right) count is =
    let last = node.Or (start + size left - 1) (start + size left + size right - 1) in
    let back = nodes_of (start + size left) right in
    let laid : nodes ≡ before ++ (((nodes_of start left ++ back) ++ last ∷ []) ++ after) = is in
    both-any (admits_in event nodes) (naming start left event.name) (naming (start + size left) right event.name) (may_match left event.name event.vars) (may_match right event.name event.vars)
    (any-naming event nodes before (back ++ (last ∷ after)) start left count (laid ∙ split-left before (nodes_of start left) back after last))
    (any-naming event nodes (before ++ nodes_of start left) (last ∷ after) (start + size left) right (side-count before start left count) (laid ∙ split-right before (nodes_of start left) back after last))

-- so whether an event may match an expression is told by its leaves that name it
pub any-naming-in : (event : Event) (condition : Option Tree) → list_any (admits_in event (nodes_in condition)) (naming_in condition event.name) ≡ may_match_in condition event.name event.vars
any-naming-in event None = refl
any-naming-in event (Some tree) = any-naming event (nodes_of 0 tree) [] [] 0 tree refl (sym (append-nil (nodes_of 0 tree)))

-- the same by places of these leaves
any-node : (event : Event) (condition : Option Tree) (places : List Place)
    → list_any (λ (place : Place). admits_by event (leaf_in condition place.node)) places ≡ list_any (admits_in event (nodes_in condition)) (map (λ (place : Place). place.node) places)
any-node event condition [] = refl
any-node event condition (place ∷ places) = ap (λ (b : Bool). admits_in event (nodes_in condition) place.node || b) (any-node event condition places)

pub any-stop : (event : Event) (condition : Option Tree) (places : List Place) → map (λ (place : Place). place.node) places ≡ naming_in condition event.name
    → list_any (λ (place : Place). admits_by event (leaf_in condition place.node)) places ≡ may_match_in condition event.name event.vars
any-stop event condition places are =
    any-node event condition places ∙ ap (list_any (admits_in event (nodes_in condition))) are ∙ any-naming-in event condition
