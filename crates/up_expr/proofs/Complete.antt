-- Each syntax is read: running its tokens ends where its tree is whole.
use Rattle.std.proofs.Common.{◌≡◌, ℕ, ◌+◌, ◌≤◌, ◌<◌, Bool, true, false, ◌&&◌, ◌||◌, List, [], ◌∷◌, ◌++◌, Option, None, Some, length, refl, ◌∙◌, arith, append_assoc, append-nil, option_map}
use Rattle.std.specs.List.{list_any}
use Rattle.std.proofs.lemmas.Bool.{and_parts, or_parts, lt-ltb}
use Rattle.std.specs.Prelude.{codes}
use Rattle.std.specs.Str.{bytes_eq}
use Rattle.std.proofs.lemmas.Slice.Eq.{bytes_eq-Decides}
use Rattle.up_text.specs.declared.token.Token.{Token}
use Rattle.up_expr.specs.declared.expr.Leaf.{Leaf}
use Rattle.up_expr.specs.Trees.{Tree, One}
use Rattle.up_expr.specs.Syntax.{Syntax, Bare, Group, Joined, tokens_of, is_item, is_right, with_both, tree_in, depth}
use Rattle.up_expr.specs.Values.{is_plainly, is_open, is_close, is_and, is_or, is_operator, is_symbol, leaf_of}
use Rattle.up_expr.specs.Parsing.{Pending, Position, Before, Within, After, Parser, at, operand, whole, step, outcome, after_word}

-- a parser that reads some tokens is then at this place, whatever comes
abbrev pub Reaches : List Token → Parser → Parser → Type 0
Reaches tokens from to = (later : List Token) → outcome (tokens ++ later) from ≡ outcome later to

pub step_other : (token : Token) (outer : List Pending) (left : Pending) (position : Position) → is_symbol token ≡ false
    → step token (at outer left position) ≡ after_word outer left token position
step_other token outer left position none =
    let p = or_parts (is_open token || is_close token) (is_operator token) none in
    let q = or_parts (is_open token) (is_close token) p.0 in
    rw (q.0, q.1, p.1) refl

-- tokens of a leaf are gathered
pub gathers : (tokens so_far : List Token) (outer : List Pending) (left : Pending) → list_any is_symbol tokens ≡ false
    → Reaches tokens (at outer left (Within so_far)) (at outer left (Within (so_far ++ tokens)))
gathers [] so_far outer left none later = rw (append-nil so_far) refl
gathers (token ∷ tokens) so_far outer left none later =
    let p = or_parts (is_symbol token) (list_any is_symbol tokens) none in
    rw (step_other token outer left (Within so_far) p.0, gathers tokens (so_far ++ token ∷ []) outer left p.1 later, append_assoc so_far (token ∷ []) tokens) refl

-- what writes a leaf has no symbol in it
pub leaf_plain : (tokens : List Token) (leaf : Leaf) → leaf_of tokens ≡ Some leaf → list_any is_symbol tokens ≡ false
leaf_plain [] leaf says = cc
leaf_plain (token ∷ tokens) leaf says = by_case (list_any is_symbol (token ∷ tokens)) refl
  where
    by_case : (b : Bool) → list_any is_symbol (token ∷ tokens) ≡ b → list_any is_symbol (token ∷ tokens) ≡ false
    by_case true is = let none : None ≡ Some leaf = rw is at says in cc
    by_case false is = is

pub bare_leaf : (tokens : List Token) (found : Option Leaf) (tree : Tree) → option_map One found ≡ Some tree → leaf_of tokens ≡ found → list_any is_symbol tokens ≡ false
bare_leaf tokens None tree says is = cc
bare_leaf tokens (Some leaf) tree says is = leaf_plain tokens leaf is

pub reads_leaf : (tokens : List Token) (outer : List Pending) (left : Pending) (tree : Tree) → tree_in (Bare tokens) ≡ Some tree
    → Reaches tokens (at outer left Before) (at outer left (Within tokens))
reads_leaf [] outer left tree says later = cc
reads_leaf (token ∷ tokens) outer left tree says later =
    let p = or_parts (is_symbol token) (list_any is_symbol tokens) (bare_leaf (token ∷ tokens) (leaf_of (token ∷ tokens)) tree says refl) in
    rw (step_other token outer left Before p.0) (gathers tokens (token ∷ []) outer left p.1 later)

-- a plain token of one text is none of another
pub plainly_apart : (a b : List ℕ) (token : Token) → bytes_eq a b ≡ false → is_plainly a token ≡ true → is_plainly b token ≡ false
plainly_apart a b token apart is =
    let p = and_parts token.plain (bytes_eq token.text a) is in
    let same : token.text ≡ a = (bytes_eq-Decides token.text a).0 p.1 in
    rw (p.0, same, apart) refl

pub close_no_open : (token : Token) → is_close token ≡ true → is_open token ≡ false
close_no_open token is = plainly_apart (codes ")") (codes "(") token refl is

-- an operator is no parenthesis
pub operator_is : (token : Token) → is_operator token ≡ true → (is_open token ≡ false) × (is_close token ≡ false)
operator_is token is = by_case (is_and token) refl
  where
    by_case : (b : Bool) → is_and token ≡ b → (is_open token ≡ false) × (is_close token ≡ false)
    by_case true both = (plainly_apart (codes "and") (codes "(") token refl both, plainly_apart (codes "and") (codes ")") token refl both)
    by_case false other =
        let either : is_or token ≡ true = rw other at is in
        (plainly_apart (codes "or") (codes "(") token refl either, plainly_apart (codes "or") (codes ")") token refl either)

-- a whole syntax was read: where its operand ends, its tree is whole
pub record Ends (tokens : List Token) (outer : List Pending) (tree : Tree) : Type 0 where
  pub left : Pending
  pub position : Position
  pub reaches : Reaches tokens (at outer None Before) (at outer left position)
  pub whole : whole left (operand position) ≡ Some tree

-- an item was read after any operator: its operand is its tree
pub record EndsItem (tokens : List Token) (outer : List Pending) (left : Pending) (tree : Tree) : Type 0 where
  pub position : Position
  pub reaches : Reaches tokens (at outer left Before) (at outer left position)
  pub operand : operand position ≡ Some tree

pub whole_one : (position : Position) (tree : Tree) → operand position ≡ Some tree → whole None (operand position) ≡ Some tree
whole_one position tree is = rw is refl

ends_item : {tokens : List Token} {outer : List Pending} {tree : Tree} → EndsItem tokens outer None tree → Ends tokens outer tree
ends_item {tokens} {outer} {tree} item = record { left = None; position = item.position; reaches = item.reaches; whole = whole_one item.position tree item.operand }

-- reading one and then the other
then_reads : (front back : List Token) (from mid to : Parser) → Reaches front from mid → Reaches back mid to → Reaches (front ++ back) from to
then_reads front back from mid to first next later = rw (append_assoc front back later) (first (back ++ later) ∙ next later)

reads_open : (token : Token) (outer : List Pending) (left : Pending) → is_open token ≡ true → length outer < 256
    → Reaches (token ∷ []) (at outer left Before) (at (left ∷ outer) None Before)
reads_open token outer left is room later = rw (is, lt-ltb (length outer) 256 room) refl

reads_close : (token : Token) (outer : List Pending) (before left : Pending) (position : Position) (tree : Tree) → is_close token ≡ true
    → whole left (operand position) ≡ Some tree → Reaches (token ∷ []) (at (before ∷ outer) left position) (at outer before (After tree))
reads_close token outer before left position tree is ends later = rw (close_no_open token is, is, ends) refl

reads_operator : (token : Token) (outer : List Pending) (left : Pending) (position : Position) (tree : Tree) → is_operator token ≡ true
    → whole left (operand position) ≡ Some tree → Reaches (token ∷ []) (at outer left position) (at outer (Some (tree, token)) Before)
reads_operator token outer left position tree is ends later =
    let no = operator_is token is in
    rw (no.0, no.1, is, ends) refl

-- an operator between two that were read
joins : (l r : List Token) (operator : Token) (outer : List Pending) (tree : Tree) (tl tr : Option Tree) → is_operator operator ≡ true → with_both operator tl tr ≡ Some tree
    → ((t : Tree) → tl ≡ Some t → Ends l outer t) → ((t : Tree) → tr ≡ Some t → (left : Pending) → EndsItem r outer left t)
    → Ends (l ++ operator ∷ r) outer tree
joins l r operator outer tree None tr is says first second = cc
joins l r operator outer tree (Some tl) None is says first second = cc
joins l r operator outer tree (Some tl) (Some tr) is says first second =
    let front = first tl refl in
    let back = second tr refl (Some (tl, operator)) in
    record {
      left = Some (tl, operator);
      position = back.position;
      reaches = then_reads l (operator ∷ r) (at outer None Before) (at outer front.left front.position) (at outer (Some (tl, operator)) back.position)
          front.reaches
          (then_reads (operator ∷ []) r (at outer front.left front.position) (at outer (Some (tl, operator)) Before) (at outer (Some (tl, operator)) back.position)
          (reads_operator operator outer front.left front.position tl is front.whole) back.reaches);
      whole = rw back.operand says;
    }

-- each right syntax is read where an operand may stand; one in parentheses or a leaf after any operator
pub reads : (syntax : Syntax) (outer : List Pending) (tree : Tree) → is_right syntax ≡ true → tree_in syntax ≡ Some tree → depth syntax + length outer ≤ 256
    → ((left : Pending) → is_item syntax ≡ true → EndsItem (tokens_of syntax) outer left tree) × Ends (tokens_of syntax) outer tree
reads (Bare tokens) outer tree right says deep =
    let item : (left : Pending) → EndsItem tokens outer left tree = λ left. record { position = Within tokens; reaches = reads_leaf tokens outer left tree says; operand = says } in
    (λ left item_is. item left, ends_item (item None))
reads (Group opening inner closing) outer tree right says deep =
    let p = and_parts (is_open opening && is_close closing) (is_right inner) right in
    let q = and_parts (is_open opening) (is_close closing) p.0 in
    let item : (left : Pending) → EndsItem (tokens_of (Group opening inner closing)) outer left tree = λ left.
    let ends = (reads inner (left ∷ outer) tree p.1 says (omega (arith, deep))).1 in
    record {
      position = After tree;
      reaches = then_reads (opening ∷ []) (tokens_of inner ++ closing ∷ []) (at outer left Before) (at (left ∷ outer) None Before) (at outer left (After tree))
          (reads_open opening outer left q.0 (omega (arith, deep)))
          (then_reads (tokens_of inner) (closing ∷ []) (at (left ∷ outer) None Before) (at (left ∷ outer) ends.left ends.position) (at outer left (After tree))
          ends.reaches (reads_close closing outer left ends.left ends.position tree q.1 ends.whole));
      operand = refl;
    } in
    (λ left item_is. item left, ends_item (item None))
reads (Joined l operator r) outer tree right says deep =
    let p = and_parts (is_operator operator && is_item r && is_right l) (is_right r) right in
    let q = and_parts (is_operator operator && is_item r) (is_right l) p.0 in
    let o = and_parts (is_operator operator) (is_item r) q.0 in (
      λ left item_is. cc,
      joins (tokens_of l) (tokens_of r) operator outer tree (tree_in l) (tree_in r) o.0 says
          (λ t is. (reads l outer t q.1 is (omega (arith, deep))).1)
          (λ t is left. (reads r outer t p.1 is (omega (arith, deep))).0 left o.1),
    )
