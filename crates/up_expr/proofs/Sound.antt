-- What was read is the text of a syntax.
use Rattle.std.proofs.Common.{◌≡◌, ℕ, ◌+◌, ◌≤◌, Bool, true, false, List, [], ◌∷◌, ◌++◌, Option, None, Some, length, refl, sym, ap, ◌∙◌, subst, arith, append_assoc, append-nil, option_map, if◌then◌else◌}
use Rattle.std.specs.Prelude.{nat_lt}
use Rattle.std.proofs.lemmas.Bool.{and_from, ltb-true}
use Rattle.up_text.specs.declared.token.Token.{Token}
use Rattle.up_expr.specs.Trees.{Tree}
use Rattle.up_expr.specs.Syntax.{Syntax, Bare, Group, Joined, tokens_of, is_item, is_right, tree_in, depth}
use Rattle.up_expr.specs.Values.{is_open, is_close, is_operator}
use Rattle.up_expr.specs.Parsing.{Pending, Position, Before, Within, After, Parser, at, operand, whole, after_opening, after_closing, after_word, step, finished, go_on, outcome}

-- a right syntax of these tokens that says this tree, within so many parentheses
pub record Reads (tokens : List Token) (tree : Tree) (around : ℕ) : Type 0 where
  pub syntax : Syntax
  pub text : tokens_of syntax ≡ tokens
  pub right : is_right syntax ≡ true
  pub says : tree_in syntax ≡ Some tree
  pub shallow : depth syntax + around ≤ 256

-- one that may stand after an operator
pub record ReadsItem (tokens : List Token) (tree : Tree) (around : ℕ) : Type 0 where
  pub reads : Reads tokens tree around
  pub item : is_item reads.syntax ≡ true

-- the tokens that were read for the operand so far
abbrev pub ForPosition : ℕ → Position → List Token → Type 0
ForPosition around Before tokens = tokens ≡ []
ForPosition around (Within own) tokens = tokens ≡ own
ForPosition around (After tree) tokens = ReadsItem tokens tree around

-- those for what stands before it
abbrev pub ForLeft : ℕ → Pending → List Token → Type 0
ForLeft around None tokens = tokens ≡ []
ForLeft around (Some before) tokens = (own : List Token) × (tokens ≡ own ++ before.1 ∷ []) × (is_operator before.1 ≡ true) × Reads own before.0 around

-- those for what stands before each open parenthesis, and these
abbrev pub ForOuter : List Pending → List Token → Type 0
ForOuter [] tokens = tokens ≡ []
ForOuter (left ∷ outer) tokens =
    (front own : List Token) × (opening : Token) × (tokens ≡ front ++ (own ++ opening ∷ [])) × ForOuter outer front × ForLeft (length outer) left own × (is_open opening ≡ true)

-- all tokens that a parser has read
pub record HasRead (tokens : List Token) (parser : Parser) : Type 0 where
  pub around : List Token
  pub before : List Token
  pub own : List Token
  pub all : tokens ≡ around ++ (before ++ own)
  pub for_outer : ForOuter parser.outer around
  pub for_left : ForLeft (length parser.outer) parser.left before
  pub for_position : ForPosition (length parser.outer) parser.position own
  pub few : length parser.outer ≤ 256

-- an operand that ends here is an item
operand_reads : (around : ℕ) (position : Position) (tokens : List Token) (tree : Tree) → around ≤ 256 → ForPosition around position tokens → operand position ≡ Some tree
    → ReadsItem tokens tree around
operand_reads around Before tokens tree few read is = cc
operand_reads around (Within own) tokens tree few read is = record {
  reads = record { syntax = Bare own; text = sym read; right = refl; says = is; shallow = omega (arith, few) };
  item = refl;
}
operand_reads around (After own) tokens tree few read is = let same : own ≡ tree = cc in subst (λ t. ReadsItem tokens t around) same read

-- a tree that ends here is read
whole_reads : (around : ℕ) (left : Pending) (position : Position) (before own : List Token) (tree : Tree) → around ≤ 256 → ForLeft around left before → ForPosition around position own
    → (found : Option Tree) → operand position ≡ found → whole left found ≡ Some tree → Reads (before ++ own) tree around
whole_reads around left position before own tree few for_left for_position None is ends = absurd_none left ends
  where
    absurd_none : (left : Pending) → whole left None ≡ Some tree → Reads (before ++ own) tree around
    absurd_none None e = cc
    absurd_none (Some b) e = cc
whole_reads around None position before own tree few for_left for_position (Some found) is ends =
    let same : found ≡ tree = cc in
    rw for_left (operand_reads around position own tree few for_position (is ∙ ap Some same)).reads
whole_reads around (Some b) position before own tree few for_left for_position (Some found) is ends =
    let back = operand_reads around position own found few for_position is in
    let front = for_left.3 in
    record {
      syntax = Joined front.syntax b.1 back.reads.syntax;
      text = rw (front.text, back.reads.text, for_left.1) (sym (append_assoc for_left.0 (b.1 ∷ []) own));
      right = and_from _ _ (and_from _ _ (and_from _ _ for_left.2 back.item) front.right) back.reads.right;
      says = rw (front.says, back.reads.says) ends;
      shallow = omega (arith, front.shallow, back.reads.shallow);
    }

-- one token more was read
abbrev Steps : List Token → Token → Option Parser → Type 0
Steps tokens token None = Unit {0}
Steps tokens token (Some next) = HasRead (tokens ++ token ∷ []) next

opened_reads : (tokens : List Token) (token : Token) (outer : List Pending) (left : Pending) (position : Position) → HasRead tokens (at outer left position) → is_open token ≡ true
    → Steps tokens token (after_opening outer left position)
opened_reads tokens token outer left Before read is = by_case (nat_lt (length outer) 256) refl
  where
    by_case : (b : Bool) → nat_lt (length outer) 256 ≡ b → Steps tokens token (if b then Some (at (left ∷ outer) None Before) else None)
    by_case true room = record {
      around = tokens ++ token ∷ [];
      before = [];
      own = [];
      all = sym (append-nil (tokens ++ token ∷ []));
      for_outer = (
        read.around,
        read.before,
        token,
        rw (read.all, read.for_position, append-nil read.before) (append_assoc read.around read.before (token ∷ [])),
        read.for_outer,
        read.for_left,
        is,
      );
      for_left = refl;
      for_position = refl;
      few = let below = ltb-true (length outer) 256 room in omega (arith, below);
    }
    by_case false full = tt
opened_reads tokens token outer left (Within own) read is = tt
opened_reads tokens token outer left (After tree) read is = tt

regroup : (front own inner : List Token) (opening closing : Token) → ((front ++ (own ++ opening ∷ [])) ++ inner) ++ closing ∷ [] ≡ front ++ (own ++ opening ∷ (inner ++ closing ∷ []))
regroup front own inner opening closing =
    append_assoc (front ++ (own ++ opening ∷ [])) inner (closing ∷ []) ∙ append_assoc front (own ++ opening ∷ []) (inner ++ closing ∷ []) ∙ ap (λ ts. front ++ ts) (append_assoc own (opening ∷ []) (inner ++ closing ∷ []))

closed_reads : (tokens : List Token) (token : Token) (outer : List Pending) (left : Pending) (position : Position) → HasRead tokens (at outer left position) → is_close token ≡ true
    → (found : Option Tree) → whole left (operand position) ≡ found → Steps tokens token (after_closing outer found)
closed_reads tokens token [] left position read is found whole_is = tt
closed_reads tokens token (before ∷ outer) left position read is None whole_is = tt
closed_reads tokens token (before ∷ outer) left position read is (Some tree) whole_is =
    let inner = whole_reads (length (before ∷ outer)) left position read.before read.own tree read.few read.for_left read.for_position (operand position) refl whole_is in
    let o = read.for_outer in
    record {
      around = o.0;
      before = o.1;
      own = o.2 ∷ (tokens_of inner.syntax ++ token ∷ []);
      all = rw (inner.text, read.all, o.3) (regroup o.0 o.1 (read.before ++ read.own) o.2 token);
      for_outer = o.4;
      for_left = o.5;
      for_position = record {
        reads = record {
          syntax = Group o.2 inner.syntax token;
          text = refl;
          right = and_from _ _ (and_from _ _ o.6 is) inner.right;
          says = inner.says;
          shallow = omega (arith, inner.shallow);
        };
        item = refl;
      };
      few = omega (arith, read.few);
    }

operator_reads : (tokens : List Token) (token : Token) (outer : List Pending) (left : Pending) (position : Position) → HasRead tokens (at outer left position) → is_operator token ≡ true
    → (found : Option Tree) → whole left (operand position) ≡ found → Steps tokens token (option_map (λ tree. at outer (Some (tree, token)) Before) found)
operator_reads tokens token outer left position read is None whole_is = tt
operator_reads tokens token outer left position read is (Some tree) whole_is =
    let front = whole_reads (length outer) left position read.before read.own tree read.few read.for_left read.for_position (operand position) refl whole_is in
    record {
      around = read.around;
      before = (read.before ++ read.own) ++ token ∷ [];
      own = [];
      all = rw (read.all, append-nil ((read.before ++ read.own) ++ token ∷ [])) (append_assoc read.around (read.before ++ read.own) (token ∷ []));
      for_outer = read.for_outer;
      for_left = (read.before ++ read.own, refl, is, front);
      for_position = refl;
      few = read.few;
    }

lengthened_reads : (tokens : List Token) (token : Token) (outer : List Pending) (left : Pending) (position : Position) → HasRead tokens (at outer left position)
    → Steps tokens token (after_word outer left token position)
lengthened_reads tokens token outer left Before read = record {
  around = read.around;
  before = read.before;
  own = token ∷ [];
  all = rw (read.all, read.for_position, append-nil read.before) (append_assoc read.around read.before (token ∷ []));
  for_outer = read.for_outer;
  for_left = read.for_left;
  for_position = refl;
  few = read.few;
}
lengthened_reads tokens token outer left (Within own) read = record {
  around = read.around;
  before = read.before;
  own = own ++ token ∷ [];
  all = rw (read.all, read.for_position, append_assoc read.around (read.before ++ own) (token ∷ [])) (ap (λ ts. read.around ++ ts) (append_assoc read.before own (token ∷ [])));
  for_outer = read.for_outer;
  for_left = read.for_left;
  for_position = refl;
  few = read.few;
}
lengthened_reads tokens token outer left (After tree) read = tt

step_reads : (tokens : List Token) (token : Token) (parser : Parser) → HasRead tokens parser → Steps tokens token (step token parser)
step_reads tokens token parser read = by_open (is_open token) refl
  where
    by_operator : (b : Bool) → is_operator token ≡ b → Steps tokens token (if b then option_map (λ tree. at parser.outer (Some (tree, token)) Before) (whole parser.left (operand parser.position)) else after_word parser.outer parser.left token parser.position)
    by_operator true is = operator_reads tokens token parser.outer parser.left parser.position read is (whole parser.left (operand parser.position)) refl
    by_operator false is = lengthened_reads tokens token parser.outer parser.left parser.position read

    by_close : (b : Bool) → is_close token ≡ b
        → Steps tokens token (if b then after_closing parser.outer (whole parser.left (operand parser.position)) else (if is_operator token then option_map (λ tree. at parser.outer (Some (tree, token)) Before) (whole parser.left (operand parser.position)) else after_word parser.outer parser.left token parser.position))
    by_close true is = closed_reads tokens token parser.outer parser.left parser.position read is (whole parser.left (operand parser.position)) refl
    by_close false is = by_operator (is_operator token) refl

    by_open : (b : Bool) → is_open token ≡ b
        → Steps tokens token (if b then after_opening parser.outer parser.left parser.position else (if is_close token then after_closing parser.outer (whole parser.left (operand parser.position)) else (if is_operator token then option_map (λ tree. at parser.outer (Some (tree, token)) Before) (whole parser.left (operand parser.position)) else after_word parser.outer parser.left token parser.position)))
    by_open true is = opened_reads tokens token parser.outer parser.left parser.position read is
    by_open false is = by_close (is_close token) refl

-- at the end the tree is that of all tokens
end_reads : (tokens : List Token) (outer : List Pending) (left : Pending) (position : Position) (tree : Tree) → HasRead tokens (at outer left position)
    → finished outer (whole left (operand position)) ≡ Some tree → Reads tokens tree 0
end_reads tokens [] left position tree read ends =
    let all : tokens ≡ read.before ++ read.own = rw read.for_outer at read.all in
    rw all (whole_reads 0 left position read.before read.own tree (omega arith) read.for_left read.for_position (operand position) refl ends)
end_reads tokens (before ∷ outer) left position tree read ends = cc

-- what these tokens end is the tree of all
pub sound : (tokens later : List Token) (parser : Parser) (tree : Tree) → HasRead tokens parser → outcome later parser ≡ Some tree → Reads (tokens ++ later) tree 0
sound tokens [] parser tree read ends = rw (append-nil tokens) (end_reads tokens parser.outer parser.left parser.position tree read ends)
sound tokens (token ∷ later) parser tree read ends =
    by_step (step token parser) (step_reads tokens token parser read) (λ next steps e. sound (tokens ++ token ∷ []) later next tree steps e) ends
  where
    by_step : (found : Option Parser) → Steps tokens token found
        → ((next : Parser) → HasRead (tokens ++ token ∷ []) next → outcome later next ≡ Some tree → Reads ((tokens ++ token ∷ []) ++ later) tree 0)
        → go_on (λ next. outcome later next) found ≡ Some tree → Reads (tokens ++ token ∷ later) tree 0
    by_step None steps more e = cc
    by_step (Some next) steps more e = subst (λ ts. Reads ts tree 0) (append_assoc tokens (token ∷ []) later) (more next steps e)
