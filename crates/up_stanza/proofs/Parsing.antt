-- The tree of tokens is the one that they write.
use Rattle.std.proofs.Common.{◌≡◌, ◌≤◌, Bool, true, false, List, Option, None, Some, is_some, cond, refl, sym, arith, nat_le}
use Rattle.std.proofs.lemmas.Bool.{le-leb, leb-true}
use Rattle.up_text.specs.declared.token.Token.{Token}
use Rattle.up_expr.specs.declared.fault.ExprFault.{ExprFault}
use Rattle.up_expr.specs.declared.fault.ExprFault.TheVariants.{Memory}
use Rattle.up_expr.specs.Parsing.{begin, outcome, operators}
use Rattle.up_expr.specs.Syntax.{Writes}
use Rattle.up_expr.specs.Trees.{Tree}
use Rattle.up_expr.proofs.Counting.{complete, written}
use Rattle.up_stanza.specs.Stanzas.{expression_in}

pub expression_in-Writes : (tokens : List Token) (tree : Tree) → Writes tokens tree → expression_in tokens ≡ Some tree
expression_in-Writes tokens tree writes =
    let both = complete tokens tree writes in
    let few : nat_le (operators tokens) 2047 ≡ true = le-leb (operators tokens) 2047 (omega (arith, both.1)) in
    rw few both.0

pub Writes-expression_in : (tokens : List Token) (tree : Tree) → expression_in tokens ≡ Some tree → Writes tokens tree
Writes-expression_in tokens tree is = by_few (nat_le (operators tokens) 2047) refl is
  where
    by_few : (few : Bool) → nat_le (operators tokens) 2047 ≡ few → cond few (outcome tokens begin) None ≡ Some tree → Writes tokens tree
    by_few true few is = written tokens tree is (let most : operators tokens ≤ 2047 = leb-true (operators tokens) 2047 few in omega (arith, most))
    by_few false few is = cc

-- what the answer of a parser says of it

pub parse_read : (tokens : List Token) (tree : Tree) → Writes tokens tree → Some tree ≡ expression_in tokens
parse_read tokens tree writes = sym (expression_in-Writes tokens tree writes)

pub parse_refused : (tokens : List Token) (fault : ExprFault) → (fault ≡ Memory → ⊥) → ((fault ≡ Memory → ⊥) → (tree : Tree) → Writes tokens tree → ⊥) → None ≡ expression_in tokens
parse_refused tokens fault other refused = by_tree (expression_in tokens) refl
  where
    by_tree : (found : Option Tree) → expression_in tokens ≡ found → None ≡ found
    by_tree None is = refl
    by_tree (Some tree) is = absurd (refused other tree (Writes-expression_in tokens tree is))

pub parse_lacks : (tokens : List Token) → (tree : Tree) × Writes tokens tree → is_some (expression_in tokens) ≡ true
parse_lacks tokens written = rw (expression_in-Writes tokens written.0 written.1) refl
