-- How a parser goes through the tokens of an expression, one after another.
use Rattle.std.specs.Prelude.{ℕ, ◌+◌, Bool, nat_lt, nat_le, List, [], ◌∷◌, ◌++◌, Option, None, Some, if◌then◌else◌, length, option_map}
use Rattle.up_text.specs.declared.token.Token.{Token}
use Rattle.up_expr.specs.Trees.{Tree, One}
use Rattle.up_expr.specs.Syntax.{join_trees}
use Rattle.up_expr.specs.Values.{is_open, is_close, is_operator, leaf_of}

-- what stands before an operand: nothing, or a tree and an operator
abbrev pub Pending : Type 0
Pending = Option (Tree × Token)

-- where a parser stands: before an operand; within a leaf, of which it has these tokens; after one
pub data Position : Type 0 where
  Before : Position
  Within : (tokens : List Token) → Position
  After : (tree : Tree) → Position

-- what stands before each open parenthesis, the innermost first; what stands before the operand; and where the parser is
pub record Parser : Type 0 where
  pub outer : List Pending
  pub left : Pending
  pub position : Position

abbrev pub at : List Pending → Pending → Position → Parser
at outer left position = record { outer = outer; left = left; position = position }

-- the operand that ends here
abbrev pub operand : Position → Option Tree
operand Before = None
operand (Within tokens) = option_map One (leaf_of tokens)
operand (After tree) = Some tree

-- the tree that ends here: the operand, with what stands before it
abbrev pub whole : Pending → Option Tree → Option Tree
whole left None = None
whole None (Some tree) = Some tree
whole (Some before) (Some tree) = Some (join_trees before.1 before.0 tree)

abbrev pub after_opening : List Pending → Pending → Position → Option Parser
after_opening outer left Before = if nat_lt (length outer) 256 then Some (at (left ∷ outer) None Before)
    else None
after_opening outer left (Within tokens) = None
after_opening outer left (After tree) = None

abbrev pub after_closing : List Pending → Option Tree → Option Parser
after_closing [] tree = None
after_closing (left ∷ outer) tree = option_map (λ inner. at outer left (After inner)) tree

abbrev pub after_word : List Pending → Pending → Token → Position → Option Parser
after_word outer left token Before = Some (at outer left (Within (token ∷ [])))
after_word outer left token (Within tokens) = Some (at outer left (Within (tokens ++ token ∷ [])))
after_word outer left token (After tree) = None

-- one token more
abbrev pub step : Token → Parser → Option Parser
step token parser =
    if is_open token then after_opening parser.outer parser.left parser.position
    else (if is_close token then after_closing parser.outer (whole parser.left (operand parser.position))
    else (if is_operator token
    then option_map (λ tree. at parser.outer (Some (tree, token)) Before)
    (whole parser.left (operand parser.position))
    else after_word parser.outer parser.left token parser.position))

-- the tree that is whole at the end, if no parenthesis is open
abbrev pub finished : List Pending → Option Tree → Option Tree
finished [] tree = tree
finished (left ∷ outer) tree = None

abbrev pub end_of : Parser → Option Tree
end_of parser = finished parser.outer (whole parser.left (operand parser.position))

abbrev pub go_on : (Parser → Option Tree) → Option Parser → Option Tree
go_on go None = None
go_on go (Some next) = go next

-- the tree that these tokens end
abbrev pub outcome : List Token → Parser → Option Tree
outcome [] parser = end_of parser
outcome (token ∷ tokens) parser = go_on (λ next. outcome tokens next) (step token parser)

-- a parser before the first token
abbrev pub begin : Parser
begin = at [] None Before

-- how many operators there are
abbrev pub operators : List Token → ℕ
operators [] = 0
operators (token ∷ tokens) = if is_operator token then operators tokens + 1 else operators tokens

-- so few operators that the tree has at most 2,048 leaves
abbrev pub has_few_operators : List Token → Bool
has_few_operators tokens = nat_le (operators tokens) 2047
