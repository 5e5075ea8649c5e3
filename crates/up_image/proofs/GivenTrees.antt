-- The tree that tokens write can be given.
use Rattle.std.proofs.Common.{◌≡◌, ℕ, zero, suc, ◌+◌, ◌-◌, ◌<◌, ◌≤◌, Bool, true, false, cond, not, ◌&&◌, ◌||◌, List, [], ◌∷◌, ◌++◌, length, take, drop, Option, None, Some, nat_eq, codes, refl, sym, ap, ◌∙◌, subst, arith, get_or, nat_le}
use Rattle.std.specs.List.{list_all, list_any, before_first, after_first, position_or_len, ends_with}
use Rattle.std.specs.Str.{is_utf8}
use Rattle.std.proofs.lemmas.Bool.{and_from, and_parts, not-false, false≢true, le-leb, leb-true, ltb-true, eqb-true, or_right, or_left}
use Rattle.std.proofs.lemmas.List.Folds.{list_all-append}
use Rattle.std.proofs.lemmas.List.Sums.{prefix_len_stops}
use Rattle.std.proofs.lemmas.Str.{is_utf8-from_IsUtf8, IsUtf8-from_is_utf8, IsUtf8-drop, IsCharBoundary-after_ascii}
use Rattle.up_text.specs.Names.{is_name, is_key, is_equals, has_equals}
use Rattle.up_text.specs.declared.token.Token.{Token}
use Rattle.up_expr.specs.declared.expr.Leaf.{Leaf}
use Rattle.up_expr.specs.declared.expr.Test.TheVariants.{Place, Same, Differs}
use Rattle.up_expr.specs.Flat.{size}
use Rattle.up_expr.specs.Trees.{Tree, One, Both, Either}
use Rattle.up_expr.proofs.Counting.{sized}
use Rattle.up_expr.specs.Syntax.{Syntax, Bare, Group, Joined, Writes, tokens_of, is_right, tree_in, depth, join_trees, with_both}
use Rattle.up_expr.specs.Values.{is_negated_key, is_good, is_ordered, is_symbol, is_and, is_operator, test_of, test_by, values_of, are_values, leaf_of}
use Rattle.up_stanza.proofs.Backward.{mapped}
use Rattle.up_image.specs.Definable.{is_token_byte, is_token, is_test, is_leaf, are_leaves, is_lone, is_shallow, can_await}
use Rattle.up_image.specs.declared.limits.TheConstants.{MAX_DEPTH, MAX_NODES}

pub all_drop : {X : Type 0} (p : X → Bool) (n : ℕ) (xs : List X) → list_all p xs ≡ true → list_all p (drop n xs) ≡ true
all_drop p zero xs all = all
all_drop p (suc n) [] all = refl
all_drop p (suc n) (x ∷ xs) all = all_drop p n xs (and_parts (p x) (list_all p xs) all).1

-- what stands after the first = of a token

equals_low : (byte : ℕ) → is_equals byte ≡ true → byte < 128
equals_low byte is = omega (arith, eqb-true byte 61 is)

pub value_token : (text : List ℕ) → is_token text ≡ true → has_equals text ≡ true → is_token (after_first is_equals text) ≡ true
value_token text token some =
    let parts = and_parts (is_utf8 text) (list_all is_token_byte text) token in
    let n = position_or_len is_equals text in
    let inside : n < length text = ltb-true n (length text) some in
    let utf8 = IsUtf8-from_is_utf8 text parts.0 in
    let stops : is_equals (get_or text n 0) ≡ true = not-false _ (prefix_len_stops (λ x. not (is_equals x)) text 0 inside) in
    let cut = IsUtf8-drop text (n + 1) utf8 (IsCharBoundary-after_ascii text n utf8 inside (equals_low _ stops)) in
    and_from _ _ (is_utf8-from_IsUtf8 (drop (n + 1) text) cut) (all_drop is_token_byte (n + 1) text parts.1)

-- what a value's text says

negated : (text : List ℕ) → is_negated_key text ≡ true → is_key (take (length text - 1) text) ≡ true
negated text is = by_end (ends_with nat_eq text (codes "!")) is
  where
    by_end : (e : Bool) → cond e (is_key (take (length text - 1) text)) false ≡ true → is_key (take (length text - 1) text) ≡ true
    by_end true key = key
    by_end false lacks = absurd (false≢true lacks)

no_equals : (equals keyed : Bool) → equals ≡ false → not (equals && keyed) ≡ true
no_equals true keyed none = absurd (false≢true (sym none))
no_equals false keyed none = refl

no_key : (equals key bang : Bool) → key ≡ false → bang ≡ false → not (equals && (key || bang)) ≡ true
no_key true true bang none other = absurd (false≢true (sym none))
no_key true false true none other = absurd (false≢true (sym other))
no_key true false false none other = refl
no_key false key bang none other = refl

good_test : (text : List ℕ) → is_token text ≡ true → is_good (test_of text) ≡ true → is_test (test_of text) ≡ true
unfolding test_of
good_test text token good = by_equals (has_equals text) refl good
  where
    by_key : (key value : List ℕ) (k n : Bool) → before_first is_equals text ≡ key → is_token value ≡ true → is_key key ≡ k → is_negated_key key ≡ n
        → is_good (cond k (Same key value) (cond n (Differs (take (length key - 1) key) value) (Place text))) ≡ true
        → is_test (cond k (Same key value) (cond n (Differs (take (length key - 1) key) value) (Place text))) ≡ true
    by_key key value true n same told is_k is_n fine = and_from _ _ is_k (and_from _ _ told fine)
    by_key key value false true same told is_k is_n fine = and_from _ _ (negated key is_n) (and_from _ _ told fine)
    by_key key value false false same told is_k is_n fine =
        and_from _ _ (and_from _ _ token fine) (no_key (has_equals text) (is_key (before_first is_equals text)) (is_negated_key (before_first is_equals text)) (ap is_key same ∙ is_k) (ap is_negated_key same ∙ is_n))

    by_equals : (e : Bool) → has_equals text ≡ e
        → is_good (cond e (test_by text (before_first is_equals text) (after_first is_equals text)) (Place text)) ≡ true
        → is_test (cond e (test_by text (before_first is_equals text) (after_first is_equals text)) (Place text)) ≡ true
    by_equals true some fine =
        by_key (before_first is_equals text) (after_first is_equals text) (is_key (before_first is_equals text)) (is_negated_key (before_first is_equals text)) refl (value_token text token some) refl refl fine
    by_equals false none fine = and_from _ _ (and_from _ _ token fine) (no_equals (has_equals text) _ none)

abbrev pub are_tokens : List Token → Bool
are_tokens tokens = list_all (λ token. is_token token.text) tokens

good_values : (tokens : List Token) → are_tokens tokens ≡ true → list_all is_good (values_of tokens) ≡ true → list_all is_test (values_of tokens) ≡ true
good_values [] all good = refl
good_values (token ∷ tokens) all good =
    let one = and_parts (is_token token.text) (are_tokens tokens) all in
    let other = and_parts (is_good (test_of token.text)) (list_all is_good (values_of tokens)) good in
    and_from _ _ (good_test token.text one.0 other.0) (good_values tokens one.1 other.1)

good_leaf : (tokens : List Token) (leaf : Leaf) → are_tokens tokens ≡ true → leaf_of tokens ≡ Some leaf → is_leaf leaf ≡ true
good_leaf [] leaf all is = absurd (cc)
good_leaf (token ∷ tokens) leaf all is =
    by_case (not (list_any is_symbol (token ∷ tokens)) && is_name token.text && are_values (values_of tokens)) (record { event = token.text; values = values_of tokens }) made is
  where
    by_case : (b : Bool) (found : Leaf) → (b ≡ true → is_leaf found ≡ true) → cond b (Some found) None ≡ Some leaf → is_leaf leaf ≡ true
    by_case false found good none = absurd (cc)
    by_case true found good some = let same : found ≡ leaf = cc in subst (λ l. is_leaf l ≡ true) same (good refl)

    made : (not (list_any is_symbol (token ∷ tokens)) && is_name token.text && are_values (values_of tokens)) ≡ true → is_leaf (record { event = token.text; values = values_of tokens }) ≡ true
    made e =
        let parts = and_parts (not (list_any is_symbol (token ∷ tokens)) && is_name token.text) (are_values (values_of tokens)) e in
        let values = and_parts (list_all is_good (values_of tokens) && is_ordered (values_of tokens)) _ parts.1 in
        let good = and_parts (list_all is_good (values_of tokens)) (is_ordered (values_of tokens)) values.0 in
        let tests = good_values tokens (and_parts (is_token token.text) (are_tokens tokens) all).1 good.0 in
        and_from _ _ (and_from _ _ (and_from _ _ (and_parts (not (list_any is_symbol (token ∷ tokens))) (is_name token.text) parts.0).1 tests) good.1) values.1

-- what a syntax says

right_side : (depth more : ℕ) (lone : Bool) (right : Tree) → (lone || (nat_le 1 depth && is_shallow (depth - 1) right)) ≡ true → depth ≤ more
    → (is_shallow (depth - 1) right ≡ true → depth - 1 ≤ more - 1 → is_shallow (more - 1) right ≡ true) → (lone || (nat_le 1 more && is_shallow (more - 1) right)) ≡ true
right_side depth more true right shallow few on = refl
right_side depth more false right shallow few on =
    let parts = and_parts (nat_le 1 depth) (is_shallow (depth - 1) right) shallow in
    and_from _ _ (le-leb 1 more (omega (arith, leb-true 1 depth parts.0, few))) (on parts.1 (omega (arith, few)))

pub deeper : (depth more : ℕ) (tree : Tree) → is_shallow depth tree ≡ true → depth ≤ more → is_shallow more tree ≡ true
deeper depth more (One leaf) shallow few = refl
deeper depth more (Both left right) shallow few =
    let parts = and_parts (is_shallow depth left) (is_lone right || (nat_le 1 depth && is_shallow (depth - 1) right)) shallow in
    and_from _ _ (deeper depth more left parts.0 few) (right_side depth more (is_lone right) right parts.1 few (λ s f. deeper (depth - 1) (more - 1) right s f))
deeper depth more (Either left right) shallow few =
    let parts = and_parts (is_shallow depth left) (is_lone right || (nat_le 1 depth && is_shallow (depth - 1) right)) shallow in
    and_from _ _ (deeper depth more left parts.0 few) (right_side depth more (is_lone right) right parts.1 few (λ s f. deeper (depth - 1) (more - 1) right s f))

shallow_join : (around : ℕ) (operator : Token) (left right : Tree) → is_shallow around left ≡ true → (is_lone right || (nat_le 1 around && is_shallow (around - 1) right)) ≡ true → is_shallow around (join_trees operator left right) ≡ true
shallow_join around operator left right one other = by_case (is_and operator)
  where
    by_case : (b : Bool) → is_shallow around (cond b (Both left right) (Either left right)) ≡ true
    by_case true = and_from _ _ one other
    by_case false = and_from _ _ one other

leaves_join : (operator : Token) (left right : Tree) → are_leaves left ≡ true → are_leaves right ≡ true → are_leaves (join_trees operator left right) ≡ true
leaves_join operator left right one other = by_case (is_and operator)
  where
    by_case : (b : Bool) → are_leaves (cond b (Both left right) (Either left right)) ≡ true
    by_case true = and_from _ _ one other
    by_case false = and_from _ _ one other

-- the parts of what is written
record Joins (operator : Token) (left right : Option Tree) (tree : Tree) : Type 0 where
  one : Tree
  other : Tree
  is_left : left ≡ Some one
  is_right : right ≡ Some other
  is : join_trees operator one other ≡ tree

joins : (operator : Token) (left right : Option Tree) (tree : Tree) → with_both operator left right ≡ Some tree → Joins operator left right tree
joins operator None right tree is = absurd (cc)
joins operator (Some left) None tree is = absurd (cc)
joins operator (Some left) (Some right) tree is = record { one = left; other = right; is_left = refl; is_right = refl; is = cc }

tree_leaves : (syntax : Syntax) (tree : Tree) → are_tokens (tokens_of syntax) ≡ true → tree_in syntax ≡ Some tree → are_leaves tree ≡ true
tree_leaves (Bare tokens) tree all says =
    let made = mapped One (leaf_of tokens) tree says in
    subst (λ t. are_leaves t ≡ true) made.gives (good_leaf tokens made.x all made.is)
tree_leaves (Group opening inner closing) tree all says =
    let parts = and_parts (is_token opening.text) (are_tokens (tokens_of inner ++ closing ∷ [])) all in
    tree_leaves inner tree (and_parts (are_tokens (tokens_of inner)) (are_tokens (closing ∷ [])) (sym (list_all-append (λ token. is_token token.text) (tokens_of inner) (closing ∷ [])) ∙ parts.1)).0 says
tree_leaves (Joined left operator right) tree all says =
    let parts = and_parts (are_tokens (tokens_of left)) (are_tokens (operator ∷ tokens_of right)) (sym (list_all-append (λ token. is_token token.text) (tokens_of left) (operator ∷ tokens_of right)) ∙ all) in
    let made = joins operator (tree_in left) (tree_in right) tree says in
    subst (λ t. are_leaves t ≡ true) made.is
    (leaves_join operator made.one made.other (tree_leaves left made.one parts.0 made.is_left) (tree_leaves right made.other (and_parts (is_token operator.text) (are_tokens (tokens_of right)) parts.1).1 made.is_right))

lone_bare : (tokens : List Token) (tree : Tree) → tree_in (Bare tokens) ≡ Some tree → is_lone tree ≡ true
lone_bare tokens tree says =
    let made = mapped One (leaf_of tokens) tree says in
    subst (λ t. is_lone t ≡ true) made.gives refl

joined_shallow : (around : ℕ) (operator : Token) (left right : Option Tree) (tree : Tree) → with_both operator left right ≡ Some tree → ((one : Tree) → left ≡ Some one → is_shallow around one ≡ true)
    → ((other : Tree) → right ≡ Some other → (is_lone other || (nat_le 1 around && is_shallow (around - 1) other)) ≡ true) → is_shallow around tree ≡ true
joined_shallow around operator left right tree says one other =
    let made = joins operator left right tree says in
    subst (λ t. is_shallow around t ≡ true) made.is (shallow_join around operator made.one made.other (one made.one made.is_left) (other made.other made.is_right))

tree_shallow : (syntax : Syntax) (tree : Tree) (around : ℕ) → is_right syntax ≡ true → depth syntax ≤ around → tree_in syntax ≡ Some tree → is_shallow around tree ≡ true
tree_shallow (Bare tokens) tree around good few says =
    let made = mapped One (leaf_of tokens) tree says in
    subst (λ t. is_shallow around t ≡ true) made.gives refl
tree_shallow (Group opening inner closing) tree around good few says = tree_shallow inner tree around (and_parts _ (is_right inner) good).1 (omega (arith, few)) says
tree_shallow (Joined left operator (Bare tokens)) tree around good few says =
    let parts = and_parts (is_operator operator && true && is_right left) true good in
    joined_shallow around operator (tree_in left) (tree_in (Bare tokens)) tree says
    (λ one is. tree_shallow left one around (and_parts _ (is_right left) parts.0).1 (omega (arith, few)) is)
    (λ other is. or_left _ _ (lone_bare tokens other is))
tree_shallow (Joined left operator (Group opening inner closing)) tree around good few says =
    let parts = and_parts (is_operator operator && true && is_right left) (is_right (Group opening inner closing)) good in
    joined_shallow around operator (tree_in left) (tree_in inner) tree says
    (λ one is. tree_shallow left one around (and_parts _ (is_right left) parts.0).1 (omega (arith, few)) is)
    (λ other is. or_right _ _ (and_from _ _ (le-leb 1 around (omega (arith, few))) (tree_shallow inner other (around - 1) (and_parts _ (is_right inner) parts.1).1 (omega (arith, few)) is)))
tree_shallow (Joined left operator (Joined one middle other)) tree around good few says =
    absurd (no_item (is_operator operator) (is_right left) (is_right (Joined one middle other)) good)
  where
    no_item : (a b c : Bool) → (a && false && b && c) ≡ true → ⊥
    no_item true b c is = false≢true is
    no_item false b c is = false≢true is

-- an expression that tokens write
pub tree_given : (tokens : List Token) (tree : Tree) → are_tokens tokens ≡ true → Writes tokens tree → can_await (Some tree) ≡ true
tree_given tokens tree all writes =
    and_from _ _
    (and_from _ _ (tree_leaves writes.syntax tree (ap are_tokens writes.written ∙ all) writes.says) (tree_shallow writes.syntax tree MAX_DEPTH writes.right writes.shallow writes.says))
    (le-leb (size tree) MAX_NODES (omega (arith, sized writes.syntax tree writes.says, writes.few)))
