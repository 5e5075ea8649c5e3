-- A syntax has one leaf more than operators, and the parser's tree is the one that the grammar gives.
use Rattle.std.proofs.Common.{◌≡◌, ◌+◌, ◌≤◌, Bool, true, false, ◌&&◌, ◌||◌, List, [], ◌∷◌, ◌++◌, Option, None, Some, refl, sym, ap, ◌∙◌, arith, append-nil, if◌then◌else◌, subst, Result, Ok, Err, option_map}
use Rattle.std.specs.Prelude.{codes, IfErr, IfOk}
use Rattle.std.specs.List.{list_any}
use Rattle.std.proofs.lemmas.Bool.{and_parts, or_parts, or_from}
use Rattle.up_text.specs.declared.token.Token.{Token}
use Rattle.up_expr.specs.declared.expr.Leaf.{Leaf}
use Rattle.up_expr.specs.declared.fault.ExprFault.{ExprFault}
use Rattle.up_expr.specs.declared.fault.ExprFault.TheVariants.{Memory}
use Rattle.up_expr.specs.declared.flat.TheConstants.{MAX_NODES}
use Rattle.up_expr.specs.Flat.{size}
use Rattle.up_expr.specs.Trees.{Tree, One, Both, Either}
use Rattle.up_expr.specs.Syntax.{Syntax, Bare, Group, Joined, tokens_of, is_item, is_right, join_trees, with_both, tree_in, leaves, Writes}
use Rattle.up_expr.specs.Values.{is_open, is_close, is_and, is_or, is_operator, is_symbol, leaf_of}
use Rattle.up_expr.specs.Parsing.{operators, begin, outcome}
use Rattle.up_expr.specs.Parts.{Keeps}
use Rattle.up_expr.proofs.Complete.{bare_leaf, plainly_apart, reads}
use Rattle.up_expr.proofs.Sound.{HasRead, sound}

operators-append : (front back : List Token) → operators (front ++ back) ≡ operators front + operators back
operators-append [] back = omega arith
operators-append (token ∷ front) back = by_case (is_operator token) (operators-append front back)
  where
    by_case : (b : Bool) → operators (front ++ back) ≡ operators front + operators back
        → (if b then operators (front ++ back) + 1 else operators (front ++ back)) ≡ (if b then operators front + 1 else operators front) + operators back
    by_case true same = omega (arith, same)
    by_case false same = same

no_operators : (tokens : List Token) → list_any is_symbol tokens ≡ false → operators tokens ≡ 0
no_operators [] none = refl
no_operators (token ∷ tokens) none =
    let p = or_parts (is_symbol token) (list_any is_symbol tokens) none in
    let q = or_parts (is_open token || is_close token) (is_operator token) p.0 in
    rw q.1 (no_operators tokens p.1)

-- a parenthesis is no operator
open_is : (token : Token) → is_open token ≡ true → is_operator token ≡ false
open_is token is = or_from (is_and token) (is_or token) (plainly_apart (codes "(") (codes "and") token refl is) (plainly_apart (codes "(") (codes "or") token refl is)

close_is : (token : Token) → is_close token ≡ true → is_operator token ≡ false
close_is token is = or_from (is_and token) (is_or token) (plainly_apart (codes ")") (codes "and") token refl is) (plainly_apart (codes ")") (codes "or") token refl is)

both_say : (operator : Token) (l r : Option Tree) (tree : Tree) → with_both operator l r ≡ Some tree → (a b : Tree) × (l ≡ Some a) × (r ≡ Some b)
both_say operator None r tree says = cc
both_say operator (Some a) None tree says = cc
both_say operator (Some a) (Some b) tree says = (a, b, refl, refl)

pub counted : (syntax : Syntax) (tree : Tree) → is_right syntax ≡ true → tree_in syntax ≡ Some tree → operators (tokens_of syntax) + 1 ≡ leaves syntax
counted (Bare tokens) tree right says = rw (no_operators tokens (bare_leaf tokens (leaf_of tokens) tree says refl)) refl
counted (Group opening inner closing) tree right says =
    let p = and_parts (is_open opening && is_close closing) (is_right inner) right in
    let q = and_parts (is_open opening) (is_close closing) p.0 in
    rw (open_is opening q.0, operators-append (tokens_of inner) (closing ∷ []), close_is closing q.1) (omega (arith, counted inner tree p.1 says))
counted (Joined l operator r) tree right says =
    let p = and_parts (is_operator operator && is_item r && is_right l) (is_right r) right in
    let q = and_parts (is_operator operator && is_item r) (is_right l) p.0 in
    let o = and_parts (is_operator operator) (is_item r) q.0 in
    let sides = both_say operator (tree_in l) (tree_in r) tree says in
    rw (operators-append (tokens_of l) (operator ∷ tokens_of r), o.0) (omega (arith, counted l sides.0 q.1 sides.2, counted r sides.1 p.1 sides.3))

-- tokens that write a tree end in it
pub complete : (tokens : List Token) (tree : Tree) → Writes tokens tree → (outcome tokens begin ≡ Some tree) × (operators tokens + 1 ≤ 2048)
complete tokens tree writes =
    let ends = (reads writes.syntax [] tree writes.right writes.says (omega (arith, writes.shallow))).1 in (
      ap (λ ts. outcome ts begin) (sym writes.written ∙ sym (append-nil (tokens_of writes.syntax))) ∙ ends.reaches [] ∙ ends.whole,
      let count = counted writes.syntax tree writes.right writes.says in
          rw (← writes.written) (omega (arith, count, writes.few)),
    )

-- nothing was read yet
nothing_read : HasRead [] begin
nothing_read = record { around = []; before = []; own = []; all = refl; for_outer = refl; for_left = refl; for_position = refl; few = omega arith }

-- tokens that end in a tree write it
pub written : (tokens : List Token) (tree : Tree) → outcome tokens begin ≡ Some tree → operators tokens + 1 ≤ 2048 → Writes tokens tree
written tokens tree ends few =
    let read = sound [] tokens begin tree nothing_read ends in
    let count = counted read.syntax tree read.right read.says in
    record {
      syntax = read.syntax;
      written = read.text;
      right = read.right;
      says = read.says;
      few = omega (arith, ap operators read.text, count, few);
      shallow = omega (arith, read.shallow);
    }

-- tokens write one tree
pub same_tree : (tokens : List Token) (tree other : Tree) → Writes tokens tree → Writes tokens other → tree ≡ other
same_tree tokens tree other writes also =
    let ends : outcome tokens begin ≡ Some tree = (complete tokens tree writes).0 in
    let ends_too : outcome tokens begin ≡ Some other = (complete tokens other also).0 in
    cc

-- tokens that end in no tree write none
pub none_written : (tokens : List Token) (tree : Tree) → outcome tokens begin ≡ None → Writes tokens tree → ⊥
none_written tokens tree none writes = clash tree (sym none ∙ (complete tokens tree writes).0)
  where
    clash : (tree : Tree) → None ≡ Some tree → ⊥
    clash tree same = cc

-- a tree that was kept is the one that is meant
pub kept_is : (kept : Option Tree) (held tree : Tree) → kept ≡ Some held → Keeps kept tree → held ≡ tree
kept_is None held tree is keeps = cc
kept_is (Some other) held tree is keeps = let same : other ≡ held = cc in sym same ∙ keeps

-- a tree has one node less than twice the leaves of what says it
size_joined : (operator : Token) (a b : Tree) → size (join_trees operator a b) ≡ size a + size b + 1
size_joined operator a b = by_case (is_and operator)
  where
    by_case : (both : Bool) → size (if both then Both a b else Either a b) ≡ size a + size b + 1
    by_case true = refl
    by_case false = refl

some_is : (a b : Tree) → Some a ≡ Some b → a ≡ b
some_is a b is = cc

size_leaf : (leaf : Option Leaf) (tree : Tree) → option_map One leaf ≡ Some tree → size tree ≡ 1
size_leaf None tree says = cc
size_leaf (Some leaf) tree says = ap size (sym (some_is (One leaf) tree says))

pub sized : (syntax : Syntax) (tree : Tree) → tree_in syntax ≡ Some tree → size tree + 1 ≡ leaves syntax + leaves syntax
sized (Bare tokens) tree says = omega (arith, size_leaf (leaf_of tokens) tree says)
sized (Group opening inner closing) tree says = sized inner tree says
sized (Joined l operator r) tree says =
    let sides = both_say operator (tree_in l) (tree_in r) tree says in
    let whole : with_both operator (Some sides.0) (Some sides.1) ≡ Some tree =
    ap (λ x. with_both operator x (Some sides.1)) (sym sides.2) ∙ ap (λ x. with_both operator (tree_in l) x) (sym sides.3) ∙ says in
    omega (arith, ap size (sym (some_is (join_trees operator sides.0 sides.1) tree whole)), size_joined operator sides.0 sides.1, sized l sides.0 sides.2, sized r sides.1 sides.3)

-- so it has at most 4,095
pub few_nodes : (tokens : List Token) (tree : Tree) → Writes tokens tree → size tree ≤ MAX_NODES
few_nodes tokens tree writes = omega (arith, sized writes.syntax tree writes.says, writes.few)

-- what is answered of a tree that is laid
pub laid_writes : (tokens : List Token) (tree : Tree) (result : Result Tree ExprFault) → Writes tokens tree → IfOk result (λ laid. laid ≡ tree)
    → IfOk result (λ laid. Writes tokens laid)
laid_writes tokens tree (Ok laid) writes is = subst (λ t. Writes tokens t) (sym is) writes
laid_writes tokens tree (Err fault) writes is = tt

pub laid_memory : {tokens : List Token} (result : Result Tree ExprFault) → (tree : Tree) × Writes tokens tree
    → IfErr result (λ fault. fault ≡ Memory → (tree : Tree) × Writes tokens tree)
laid_memory (Ok laid) writes = tt
laid_memory (Err fault) writes = λ memory. writes
