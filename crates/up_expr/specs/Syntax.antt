-- The grammar of an expression (init(5), "start on"): `and` and `or` have one precedence and group to the left, which is this
-- project's choice.
--
--     expr = item, then any number of: ("and" or "or") item
--     item = "(" expr ")" or leaf
use Rattle.std.specs.Prelude.{◌≡◌, ℕ, ◌+◌, ◌≤◌, Bool, true, false, ◌&&◌, max, List, [], ◌∷◌, ◌++◌, Option, None, Some, if◌then◌else◌, option_map}
use Rattle.up_text.specs.declared.token.Token.{Token}
use Rattle.up_expr.specs.Trees.{Tree, One, Both, Either}
use Rattle.up_expr.specs.Values.{is_open, is_close, is_and, is_operator, leaf_of}

-- how an expression is written: the tokens of a leaf; one in parentheses; two with an operator between them
pub data Syntax : Type 0 where
  Bare : (tokens : List Token) → Syntax
  Group : (opening : Token) (inner : Syntax) (closing : Token) → Syntax
  Joined : (left : Syntax) (operator : Token) (right : Syntax) → Syntax

-- its tokens
abbrev pub tokens_of : Syntax → List Token
tokens_of (Bare tokens) = tokens
tokens_of (Group opening inner closing) = opening ∷ (tokens_of inner ++ closing ∷ [])
tokens_of (Joined left operator right) = tokens_of left ++ operator ∷ tokens_of right

-- what may stand after an operator: a leaf, or an expression in parentheses
abbrev pub is_item : Syntax → Bool
is_item (Joined left operator right) = false
is_item other = true

-- each part is what it stands for
abbrev pub is_right : Syntax → Bool
is_right (Bare tokens) = true
is_right (Group opening inner closing) = is_open opening && is_close closing && is_right inner
is_right (Joined left operator right) =
    is_operator operator && is_item right && is_right left && is_right right

-- what an operator makes of two trees
abbrev pub join_trees : Token → Tree → Tree → Tree
join_trees operator left right = if is_and operator then Both left right else Either left right

-- both of two, if there are both
abbrev pub with_both : Token → Option Tree → Option Tree → Option Tree
with_both operator None right = None
with_both operator (Some left) None = None
with_both operator (Some left) (Some right) = Some (join_trees operator left right)

-- the tree that it says
abbrev pub tree_in : Syntax → Option Tree
tree_in (Bare tokens) = option_map One (leaf_of tokens)
tree_in (Group opening inner closing) = tree_in inner
tree_in (Joined left operator right) = with_both operator (tree_in left) (tree_in right)

-- how many leaves it has, and how deep its parentheses are
abbrev pub leaves : Syntax → ℕ
leaves (Bare tokens) = 1
leaves (Group opening inner closing) = leaves inner
leaves (Joined left operator right) = leaves left + leaves right

abbrev pub depth : Syntax → ℕ
depth (Bare tokens) = 0
depth (Group opening inner closing) = depth inner + 1
depth (Joined left operator right) = max (depth left) (depth right)

-- the tokens write the tree: at most 2,048 leaves, which are 4,095 nodes, and parentheses at most 256 deep
pub record Writes (tokens : List Token) (tree : Tree) : Type 0 where
  pub syntax : Syntax
  pub written : tokens_of syntax ≡ tokens
  pub right : is_right syntax ≡ true
  pub says : tree_in syntax ≡ Some tree
  pub few : leaves syntax ≤ 2048
  pub shallow : depth syntax ≤ 256
