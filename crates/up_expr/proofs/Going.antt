-- How what tokens end in goes on from one token or one operand to the next.
use Rattle.std.proofs.Common.{◌≡◌, ℕ, ◌+◌, Bool, true, false, not, ◌||◌, List, [], ◌∷◌, ◌++◌, None, Some, take, drop, refl, sym, ap, ◌∙◌, subst, cond, one-add, option_map, if◌then◌else◌}
use Rattle.std.specs.List.{list_any, prefix_len}
use Rattle.std.proofs.lemmas.Bool.{true≢false, or_parts, or_from}
use Rattle.std.proofs.lemmas.List.{take-append-drop}
use Rattle.up_text.specs.declared.token.Token.{Token}
use Rattle.up_expr.specs.declared.expr.Leaf.{Leaf}
use Rattle.up_expr.specs.Trees.{Tree, One}
use Rattle.up_expr.specs.Values.{is_open, is_close, is_operator, is_symbol, leaf_of}
use Rattle.up_expr.specs.Parsing.{Pending, Position, Before, Within, After, at, operand, whole, after_opening, after_closing, after_word, finished, go_on, outcome}
use Rattle.up_text.specs.Lists.{begins}
use Rattle.up_expr.proofs.Complete.{step_other, gathers, operator_is}

whole_none : (left : Pending) → whole left None ≡ None
whole_none None = refl
whole_none (Some before) = refl

finished_none : (outer : List Pending) → finished outer None ≡ None
finished_none [] = refl
finished_none (left ∷ outer) = refl

closed_none : (outer : List Pending) → after_closing outer None ≡ None
closed_none [] = refl
closed_none (left ∷ outer) = refl

-- two places where the same tree is whole end alike, unless a leaf could go on at one of them
same_end : (tokens : List Token) (outer : List Pending) (left other : Pending) (position next : Position) → whole left (operand position) ≡ whole other (operand next)
    → ((token : Token) → begins (λ t. not (is_symbol t)) tokens ≡ true → after_word outer left token position ≡ after_word outer other token next)
    → after_opening outer left position ≡ after_opening outer other next
    → outcome tokens (at outer left position) ≡ outcome tokens (at outer other next)
same_end [] outer left other position next same longer open_same = ap (finished outer) same
same_end (token ∷ tokens) outer left other position next same longer open_same = ap (go_on (λ found. outcome tokens found)) (by_open (is_open token) refl)
  where
    by_operator : (b : Bool) → is_operator token ≡ b → is_close token ≡ false → is_open token ≡ false
        → (if b then option_map (λ tree. at outer (Some (tree, token)) Before) (whole left (operand position)) else after_word outer left token position)
        ≡ (if b then option_map (λ tree. at outer (Some (tree, token)) Before) (whole other (operand next)) else after_word outer other token next)
    by_operator true is no_close no_open = ap (option_map (λ tree. at outer (Some (tree, token)) Before)) same
    by_operator false is no_close no_open = longer token (rw (or_from (is_open token || is_close token) (is_operator token) (or_from (is_open token) (is_close token) no_open no_close) is) refl)

    by_close : (b : Bool) → is_close token ≡ b → is_open token ≡ false
        → (if b then after_closing outer (whole left (operand position)) else (if is_operator token then option_map (λ tree. at outer (Some (tree, token)) Before) (whole left (operand position)) else after_word outer left token position))
        ≡ (if b then after_closing outer (whole other (operand next)) else (if is_operator token then option_map (λ tree. at outer (Some (tree, token)) Before) (whole other (operand next)) else after_word outer other token next))
    by_close true is no_open = ap (after_closing outer) same
    by_close false is no_open = by_operator (is_operator token) refl is no_open

    by_open : (b : Bool) → is_open token ≡ b
        → (if b then after_opening outer left position else (if is_close token then after_closing outer (whole left (operand position)) else (if is_operator token then option_map (λ tree. at outer (Some (tree, token)) Before) (whole left (operand position)) else after_word outer left token position)))
        ≡ (if b then after_opening outer other next else (if is_close token then after_closing outer (whole other (operand next)) else (if is_operator token then option_map (λ tree. at outer (Some (tree, token)) Before) (whole other (operand next)) else after_word outer other token next)))
    by_open true is = open_same
    by_open false is = by_close (is_close token) refl is

-- a tree with what stands before it is as good as the tree that both make
pub merged : (tokens : List Token) (outer : List Pending) (left : Pending) (tree joint : Tree) → whole left (Some tree) ≡ Some joint
    → outcome tokens (at outer left (After tree)) ≡ outcome tokens (at outer None (After joint))
merged tokens outer left tree joint is = same_end tokens outer left None (After tree) (After joint) is (λ token starts. refl) refl

-- a place where nothing is whole ends in nothing, if neither a parenthesis nor a leaf can go on
nowhere : (tokens : List Token) (outer : List Pending) (left : Pending) (position : Position) → operand position ≡ None
    → begins (λ t. not (is_symbol t)) tokens ≡ false → (begins is_open tokens ≡ true → after_opening outer left position ≡ None)
    → outcome tokens (at outer left position) ≡ None
nowhere [] outer left position none starts stuck = ap (finished outer) (ap (whole left) none ∙ whole_none left) ∙ finished_none outer
nowhere (token ∷ tokens) outer left position none starts stuck = ap (go_on (λ found. outcome tokens found)) (by_open (is_open token) refl)
  where
    by_operator : (b : Bool) → is_operator token ≡ b → is_close token ≡ false → is_open token ≡ false
        → (if b then option_map (λ tree. at outer (Some (tree, token)) Before) (whole left (operand position)) else after_word outer left token position) ≡ None
    by_operator true is no_close no_open = ap (option_map (λ tree. at outer (Some (tree, token)) Before)) (ap (whole left) none ∙ whole_none left)
    by_operator false is no_close no_open =
        let other : not (is_symbol token) ≡ true = rw (or_from (is_open token || is_close token) (is_operator token) (or_from (is_open token) (is_close token) no_open no_close) is) refl in
        absurd (true≢false (sym other ∙ starts))

    by_close : (b : Bool) → is_close token ≡ b → is_open token ≡ false
        → (if b then after_closing outer (whole left (operand position)) else (if is_operator token then option_map (λ tree. at outer (Some (tree, token)) Before) (whole left (operand position)) else after_word outer left token position)) ≡ None
    by_close true is no_open = ap (after_closing outer) (ap (whole left) none ∙ whole_none left) ∙ closed_none outer
    by_close false is no_open = by_operator (is_operator token) refl is no_open

    by_open : (b : Bool) → is_open token ≡ b
        → (if b then after_opening outer left position else (if is_close token then after_closing outer (whole left (operand position)) else (if is_operator token then option_map (λ tree. at outer (Some (tree, token)) Before) (whole left (operand position)) else after_word outer left token position))) ≡ None
    by_open true is = stuck is
    by_open false is = by_close (is_close token) refl is

-- the tokens of the leaf in front
abbrev pub leaf_count : List Token → ℕ
leaf_count tokens = prefix_len (λ token. not (is_symbol token)) tokens

pub front_plain : (tokens : List Token) → list_any is_symbol (take (leaf_count tokens) tokens) ≡ false
front_plain [] = refl
front_plain (token ∷ tokens) =
    let Goal : ℕ → Type 0 = λ n. list_any is_symbol (take n (token ∷ tokens)) ≡ false in
    elim (is_symbol token) as (λ b. is_symbol token ≡ b → Goal (cond (not b) (1 + leaf_count tokens) 0)) [
      | true ↦ λ _. refl
      | false ↦ λ other. subst Goal (sym (one-add _)) (or_from (is_symbol token) _ other (front_plain tokens))
    ] refl

pub after_leaf : (tokens : List Token) → begins (λ t. not (is_symbol t)) (drop (leaf_count tokens) tokens) ≡ false
after_leaf [] = refl
after_leaf (token ∷ tokens) =
    let Goal : ℕ → Type 0 = λ n. begins (λ t. not (is_symbol t)) (drop n (token ∷ tokens)) ≡ false in
    elim (is_symbol token) as (λ b. is_symbol token ≡ b → Goal (cond (not b) (1 + leaf_count tokens) 0)) [
      | true ↦ λ symbol. rw symbol refl
      | false ↦ λ _. subst Goal (sym (one-add _)) (after_leaf tokens)
    ] refl

-- the leaf in front is gathered
leaf_gathered : (own later : List Token) (outer : List Pending) (left : Pending) (leaf : Leaf) → list_any is_symbol own ≡ false → leaf_of own ≡ Some leaf
    → outcome (own ++ later) (at outer left Before) ≡ outcome later (at outer left (Within own))
leaf_gathered [] later outer left leaf none is = cc
leaf_gathered (token ∷ own) later outer left leaf none is =
    let p = or_parts (is_symbol token) (list_any is_symbol own) none in
    rw (step_other token outer left Before p.0) (gathers own (token ∷ []) outer left p.1 later)

-- if the tokens in front write a leaf, it is the operand
pub leaf_read : (tokens : List Token) (outer : List Pending) (left : Pending) (leaf : Leaf) → leaf_of (take (leaf_count tokens) tokens) ≡ Some leaf
    → outcome tokens (at outer left Before) ≡ outcome (drop (leaf_count tokens) tokens) (at outer left (After (One leaf)))
leaf_read tokens outer left leaf is =
    let own = take (leaf_count tokens) tokens in
    let later = drop (leaf_count tokens) tokens in
    ap (λ ts. outcome ts (at outer left Before)) (sym (take-append-drop (leaf_count tokens) tokens))
    ∙ leaf_gathered own later outer left leaf (front_plain tokens) is
    ∙ same_end later outer left left (Within own) (After (One leaf)) (rw is refl) (λ token starts. absurd (true≢false (sym starts ∙ after_leaf tokens))) refl

-- if they write none, nothing is whole
refused_by : (own later tokens : List Token) (outer : List Pending) (left : Pending) → own ++ later ≡ tokens → list_any is_symbol own ≡ false → leaf_of own ≡ None
    → begins (λ t. not (is_symbol t)) later ≡ false → begins is_open tokens ≡ false → outcome tokens (at outer left Before) ≡ None
refused_by [] later tokens outer left all plain none after no_open =
    nowhere tokens outer left Before refl (rw (sym all) after) (λ opens. absurd (true≢false (sym opens ∙ no_open)))
refused_by (token ∷ own) later tokens outer left all plain none after no_open =
    let p = or_parts (is_symbol token) (list_any is_symbol own) plain in
    ap (λ ts. outcome ts (at outer left Before)) (sym all)
    ∙ ap (go_on (λ found. outcome (own ++ later) found)) (step_other token outer left Before p.0)
    ∙ gathers own (token ∷ []) outer left p.1 later
    ∙ nowhere later outer left (Within (token ∷ own)) (rw none refl) after (λ opens. refl)

pub leaf_refused : (tokens : List Token) (outer : List Pending) (left : Pending) → begins is_open tokens ≡ false → leaf_of (take (leaf_count tokens) tokens) ≡ None
    → outcome tokens (at outer left Before) ≡ None
leaf_refused tokens outer left no_open none =
    refused_by (take (leaf_count tokens) tokens) (drop (leaf_count tokens) tokens) tokens outer left (take-append-drop (leaf_count tokens) tokens) (front_plain tokens) none (after_leaf tokens) no_open

-- an operator after a tree
pub operator_read : (token : Token) (tokens : List Token) (outer : List Pending) (left : Pending) (tree joint : Tree) → is_operator token ≡ true → whole left (Some tree) ≡ Some joint
    → outcome (token ∷ tokens) (at outer left (After tree)) ≡ outcome tokens (at outer (Some (joint, token)) Before)
operator_read token tokens outer left tree joint is ends =
    let no = operator_is token is in
    rw (no.0, no.1, is, ends) refl
