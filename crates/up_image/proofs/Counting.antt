-- Items that are read one after another.
use Rattle.std.proofs.Common.{◌≡◌, ◌+◌, ◌-◌, ◌<◌, ℕ, suc, Bool, true, false, List, [], ◌∷◌, ◌++◌, Some, option_and_then, ap, arith}
use Rattle.up_expr.specs.Laying.{sizes}
use Rattle.up_expr.specs.TreeCode.{joined}
use Rattle.up_expr.specs.Trees.{Tree, Both, Either}
use Rattle.up_image.specs.Finding.{Found, items_at, node_at, trees_at}

-- the first of those that are left, and the others
pub items_left : {X : Type 0} (one : List ℕ → Found X) (count i : ℕ) (before : List X) (rest : List ℕ) → i < count
    → items_at one (count - i) before rest ≡ option_and_then (λ more. items_at one (count - (i + 1)) (before ++ more.0 ∷ []) more.1) (one rest)
items_left one count i before rest within =
    let some : count - i ≡ suc (count - (i + 1)) = omega arith in
    ap (λ n. items_at one n before rest) some

pub trees_left : (count i : ℕ) (trees : List Tree) (rest : List ℕ) → i < count
    → trees_at (count - i) trees rest ≡ option_and_then (λ more. trees_at (count - (i + 1)) more.0 more.1) (node_at trees rest)
trees_left count i trees rest within =
    let some : count - i ≡ suc (count - (i + 1)) = omega arith in
    ap (λ n. trees_at n trees rest) some

-- a joined tree has a node more than the two that it joins
pub joined_size : (both : Bool) (trees now : List Tree) → joined both trees ≡ Some now → sizes now ≡ sizes trees + 1
joined_size both [] now is = absurd (cc)
joined_size both (one ∷ []) now is = absurd (cc)
joined_size true (right ∷ left ∷ trees) now is =
    let joins : now ≡ Both left right ∷ trees = cc in
    rw joins (omega arith)
joined_size false (right ∷ left ∷ trees) now is =
    let joins : now ≡ Either left right ∷ trees = cc in
    rw joins (omega arith)
