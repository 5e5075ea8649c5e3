-- When a leaf and an expression are true.
use Rattle.std.proofs.Common.{◌≡◌, ℕ, Bool, true, false, ◌&&◌, ◌||◌, List, [], ◌∷◌, ◌++◌, Option, None, Some, refl, sym, ap, ◌∙◌, if◌then◌else◌}
use Rattle.std.specs.Prelude.{is_some}
use Rattle.std.specs.List.{list_any}
use Rattle.std.specs.Option.{option_to_list}
use Rattle.up_expr.specs.declared.expr.Leaf.{Leaf}
use Rattle.up_expr.specs.Matching.{matches}
use Rattle.up_expr.specs.Trees.{Tree, One, Both, Either}
use Rattle.up_expr.specs.Truth.{Sight, first, holds, taken}

-- a leaf has a first event if it matches some
pub leaf_any : (leaf : Leaf) (sights : List Sight) → is_some (first leaf sights) ≡ list_any (λ sight. matches leaf sight.name sight.vars sight.env) sights
leaf_any leaf [] = refl
leaf_any leaf (sight ∷ sights) = by_case (matches leaf sight.name sight.vars sight.env) (leaf_any leaf sights)
  where
    by_case : (b : Bool) → is_some (first leaf sights) ≡ list_any (λ sight. matches leaf sight.name sight.vars sight.env) sights
        → is_some (if b then Some sight.event else first leaf sights) ≡ b || list_any (λ sight. matches leaf sight.name sight.vars sight.env) sights
    by_case true same = refl
    by_case false same = same

-- whether there is an event
abbrev any : List ℕ → Bool
any [] = false
any (event ∷ events) = true

any-append : (front back : List ℕ) → any (front ++ back) ≡ any front || any back
any-append [] back = refl
any-append (event ∷ front) back = refl

any_none : (events : List ℕ) → any events ≡ false → events ≡ []
any_none [] none = refl
any_none (event ∷ events) none = cc

holds_any : (tree : Tree) (sights : List Sight) → holds tree sights ≡ any (taken tree sights)
holds_any (One leaf) sights = by_case (first leaf sights)
  where
    by_case : (found : Option ℕ) → is_some found ≡ any (option_to_list found)
    by_case None = refl
    by_case (Some event) = refl
holds_any (Both left right) sights = by_case (holds left sights) (holds right sights) (holds_any left sights)
  where
    by_case : (a b : Bool) → a ≡ any (taken left sights) → a && b ≡ any (if a && b then taken left sights ++ taken right sights else [])
    by_case false b same = refl
    by_case true false same = refl
    by_case true true same = sym (any-append (taken left sights) (taken right sights) ∙ ap (λ c. c || any (taken right sights)) (sym same))
holds_any (Either left right) sights = rw (holds_any left sights, holds_any right sights) (sym (any-append (taken left sights) (taken right sights)))

-- nothing is taken if an expression is false
pub none_taken : (tree : Tree) (sights : List Sight) → holds tree sights ≡ false → taken tree sights ≡ []
none_taken tree sights is = any_none (taken tree sights) (sym (holds_any tree sights) ∙ is)

-- and nowhere else
pub false_by_none : (tree : Tree) (sights : List Sight) → taken tree sights ≡ [] → holds tree sights ≡ false
false_by_none tree sights is = holds_any tree sights ∙ ap any is
